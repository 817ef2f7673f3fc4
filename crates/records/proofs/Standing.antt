-- What the bytes at a place of a file say.
use Rattle.std.proofs.Common.{◌≡◌, ℕ, ◌+◌, ◌<◌, ◌≤◌, List, ◌∷◌, ◌++◌, length, get_or, take, drop, sym, ap, ◌∙◌, subst, add-one, arith, length-drop, take-append-drop, drop-cons, Bor}
use Rattle.std.specs.Int.Digits.{AllBelowBase}
use Rattle.std.proofs.ByRecursion.{All-drop}
use Rattle.std.proofs.lemmas.List.{drop-drop}
use Rattle.std.proofs.lemmas.Option.{IfSome_then}
use Rattle.layout.specs.declared.kind.Kind.{Kind}
use Rattle.layout.specs.Layout.{letter_of, widths, body_of}
use Rattle.layout.specs.declared.record.Record.{Record}
use Rattle.layout.specs.Records.{Plain, packed, reference_of}
use Rattle.records.specs.Reading.{Stands, address, Lent}
use Rattle.records.specs.Parsing.{unpacked, parsed}
use Rattle.records.proofs.Packing.{length-packed, fit-unpacked, packed-unpacked}

-- the record that stands at a place, by the kind of its letter
pub stands : (s : List ℕ) (at : ℕ) (k : Kind) {p : Plain} {next : ℕ} → AllBelowBase 256 s → at < length s → letter_of k ≡ get_or s at 0 → p ≡ parsed k (drop (at + 1) s) → next ≡ at + 1 + body_of k → next ≤ length s → Stands s at p next
stands s at k {p} {next} bytes h letter says end long =
    let rest = drop (at + 1) s in
    let under : AllBelowBase 256 rest = All-drop (λ d. d < 256) (at + 1) s bytes in
    let enough : 0 + body_of k ≤ length rest = omega (arith, length-drop (at + 1) s) in
    let fits = fit-unpacked rest under (widths k) 0 enough in
    let body : packed (widths k) (unpacked (widths k) 0 rest) ≡ take (body_of k) rest = packed-unpacked rest under (widths k) 0 enough in
    let here : Stands s at (parsed k rest) (at + 1 + body_of k) = record {
      bytes = drop-cons s at 0 h ∙ (λ i. sym letter i ∷ (ap (λ n. drop n s) (sym (add-one at)) ∙ sym (take-append-drop (body_of k) rest)) i) ∙ (λ i. letter_of k ∷ (sym body i ++ drop-drop (body_of k) (at + 1) s i));
      after = omega (arith, length-packed (widths k) _ fits);
      within = omega arith;
      sound = fits;
    } in
    subst (λ (q : Plain). Stands s at q next) (sym says) (subst (Stands s at (parsed k rest)) (sym end) here)

-- what is lent from the rest of a file is lent from the file
pub lent_rest : (file : Bor (List ℕ)) (n m place : ℕ) (w : Record) {rest : List ℕ} → n + m ≡ place → rest ≡ drop n file.now → Lent (record { ref_ptr = address file n; now = rest }) m w → Lent file place w
lent_rest file n m place w sum is h =
    let shifted : m + (n + file.ref_ptr.1) ≡ place + file.ref_ptr.1 = omega arith in
    IfSome_then (reference_of w) h (λ x l. (
      l.0 ∙ ap (λ s. take 8 (drop m s)) is ∙ ap (take 8) (drop-drop m n file.now) ∙ ap (λ k. take 8 (drop k file.now)) sum,
      l.1 ∙ (λ i. (file.ref_ptr.0, shifted i)),
    ))
