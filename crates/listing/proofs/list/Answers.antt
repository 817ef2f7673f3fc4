use Rattle.std.proofs.Common.{◌≡◌, List, length, vec_items, sym, ap, ◌∙◌, subst, arith}
use Rattle.std.specs.List.{flat_map, AllByRecursion}
use Rattle.layout.specs.Records.{Sized, encode}
use Rattle.files.specs.declared.placed.Placed.{Placed}
use Rattle.files.specs.Files.{said}
use Rattle.listing.specs.Listing.{entries_text, verdict_of}
use Rattle.listing.proofs.Fronts.{sized, copy_is, verdict_is, text_is}
use Rattle.listing.proofs.list.Goals as goal

pub written_back-requires : goal.written_back-requires
written_back-requires c =
    let r = c.in_ok-records in
    subst (λ (ws : List Placed). AllByRecursion (λ w. Sized w.«record») ws) (sym c.as_slice.ensures.value) (sized c.args.file (vec_items r.field-0.records) _ r.ensures.answer)

pub returns : goal.returns
returns c =
    let ws = vec_items c.in_ok-records.field-0.records in
    let stop = c.in_ok-records.field-0.stop in
    let front = c.in_ok-records.ensures.answer in
    let file = c.args.file in
    let copy = c.as_slice-2.result.now in
    let same : copy ≡ flat_map encode (said ws) = c.as_slice-2.ensures.value ∙ c.in_ok-copy.ensures.copy ∙ ap (λ xs. flat_map encode (said xs)) c.as_slice.ensures.value in
    let verdict : c.compare-verdict.result ≡ verdict_of file.now c.args.is_cut stop = verdict_is file ws copy c.args.is_cut stop _ front same c.compare-verdict.ensures.answer in
    record {
      answer = record {
        found = ws;
        stop = stop;
        front = front;
        copy = copy_is file ws (vec_items c.in_ok-copy.copy) stop front (sym c.as_slice-2.ensures.value ∙ same);
        text = text_is file ws copy c.args.is_cut stop _ c.len-count.result c.len-bytes.result _ _ _ front same verdict (omega (arith, c.len-count.ensures, c.as_slice.ensures.len, ap length c.as_slice.ensures.value)) (omega (arith, c.len-bytes.ensures, c.as_slice-2.ensures.len)) (c.in_ok-text.ensures.text ∙ ap (entries_text 1) c.as_slice-3.ensures.value) c.in_ok-add_stop.ensures.text c.in_ok-add_line.ensures.text;
        verdict = verdict;
      };
    }
