-- What a row of figures means, place by place.
use Rattle.std.proofs.Common.{◌≡◌, ℕ, ◌+◌, ◌-◌, ◌^◌, ◌<◌, ◌≤◌, ◌≢◌, List, Some, Ok, length, get_or, set, slice_get, sym, ap, ◌∙◌, subst, ⊎_elim, arith}
use Rattle.std.proofs.lemmas.List.{length-map, get_or-map, map-set, get_or-set_same, get_or-set_other}
use Rattle.std.proofs.lemmas.Option.{get_or_from_slice_get}
use Rattle.std.proofs.lemmas.Bool.{cases_eq}
use Rattle.book.specs.Figures.{figures, none, sendable_at, open_at}
use Rattle.book.specs.Moves.{Fits, Taken, Put}
use Rattle.book.proofs.Figures.{same}
use Rattle.book.proofs.Moves.{fits_in}
use Rattle.rows.specs.Rows.{table_means, Low}

pub length_table : (ns : List ℕ) → length (table_means ns) ≡ length ns
length_table ns = length-map ns _

-- what stands at account a
pub record Stands (ns : List ℕ) (a : ℕ) : Type 0 where
  pub sent : sendable_at (table_means ns) a ≡ get_or ns a 0
  pub left : open_at (table_means ns) a ≡ 10 ^ 16 - get_or ns a 0
  pub most : get_or ns a 0 ≤ 10 ^ 16

stands : (ns : List ℕ) (a : ℕ) → Low ns → a < length ns → Stands ns a
stands ns a low h =
    let at = get_or-map (λ n. figures n (10 ^ 16 - n)) ns a 0 none h in
    record { sent = ap (λ f. f.sendable) at; left = ap (λ f. f.«open») at; most = low a }

-- what may still be sent, and what may still come in, make up 10^16
pub sent_most : (ns : List ℕ) (a : ℕ) → Low ns → a < length (table_means ns) → sendable_at (table_means ns) a ≤ 10 ^ 16
sent_most ns a low h = let s = stands ns a low (omega (arith, length_table ns)) in omega arith

pub left_is : (ns : List ℕ) (a : ℕ) → Low ns → a < length (table_means ns) → open_at (table_means ns) a ≡ 10 ^ 16 - sendable_at (table_means ns) a
left_is ns a low h = let s = stands ns a low (omega (arith, length_table ns)) in omega arith

-- a row with the figure n at place a, and one with the figure y there
module _ (ns ms : List ℕ) (a n y : ℕ) (low : Low ns) (found : slice_get ns a ≡ Some n) (wrote : ms ≡ set ns a y) where
  there : n ≡ get_or ns a 0
  there = sym (get_or_from_slice_get ns a n 0 found)

  means : (x o : ℕ) → y ≡ x → 10 ^ 16 - y ≡ o → table_means ms ≡ set (table_means ns) a (figures x o)
  means x o e f = ap table_means wrote ∙ map-set _ ns a y ∙ ap (set (table_means ns) a) (same e f)

  pub took : (count s : ℕ) → count ≡ length ns → Fits count a s → y ≡ n - s → s ≤ n → Taken (table_means ns) a s (Ok tt) (table_means ms)
  took count s many fits e le =
      let at = stands ns a low (omega arith) in
      let is = there in
      (fits_in (many ∙ sym (length_table ns)) fits, omega arith, means _ _ (omega arith) (omega arith))

  pub gave : (count s : ℕ) → count ≡ length ns → Fits count a s → y ≡ n + s → s ≤ 10 ^ 16 - n → Put (table_means ns) a s (Ok tt) (table_means ms)
  gave count s many fits e le =
      let at = stands ns a low (omega arith) in
      let is = there in
      (fits_in (many ∙ sym (length_table ns)) fits, omega arith, means _ _ (omega arith) (omega arith))

pub low_set : (ns : List ℕ) (a y : ℕ) → Low ns → a < length ns → y ≤ 10 ^ 16 → Low (set ns a y)
low_set ns a y low h le k =
    ⊎_elim
    (λ (e : k ≡ a). subst (λ j. get_or (set ns a y) j 0 ≤ 10 ^ 16) (sym e) (rw get_or-set_same le))
    (λ (ne : k ≢ a). rw get_or-set_other (low k)) (cases_eq k a)
