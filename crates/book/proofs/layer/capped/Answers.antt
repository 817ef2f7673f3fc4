use Rattle.std.proofs.Common.{rules, ◌≡◌, ◌^◌, ◌<◌, ◌≤◌, min, take, ⊎_elim, arith, length-take}
use Rattle.std.specs.Prelude.{slice_index}
use Rattle.std.proofs.lemmas.List.{get_or_past, get_or-take}
use Rattle.std.proofs.lemmas.Bool.{cases_lt}
use Rattle.book.proofs.Arrays.{made}
use Rattle.book.proofs.layer.capped.Goals as goal

pub returns : goal.returns
returns c =
    let row = c.args.row.now in
    let w = c.from_fn.ensures.items in
    record {
      value = λ k.
          ⊎_elim
          (λ (h : k < 16).
          let e : slice_index c.from_fn.result k ≡ min (slice_index row k) (10 ^ 15) = made _ (λ j. min (slice_index row j) (10 ^ 15)) c.from_fn.result _ (λ j r f e. search rules) 16 w k 0 h in
          omega (arith, get_or-take 16 row k 0 h))
          (λ (h : 16 ≤ k). omega (arith, w.long, get_or_past c.from_fn.result k 0 (omega arith), get_or_past (take 16 row) k 0 (omega (arith, length-take 16 row))))
          (cases_lt k 16);
    }
