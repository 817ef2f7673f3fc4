-- A row in order stays so when an entry goes out, and when one comes to its place.
use Rattle.std.proofs.Common.{◌≡◌, ℕ, suc, ◌<◌, length, Bool, true, false, cond, not, List, [], ◌∷◌, sym, refl, ◌∙◌, arith}
use Rattle.std.specs.List.{remove, AllByRecursion, AllPairs}
use Rattle.std.proofs.lemmas.List.Kept.{AllPairs-cons}
use Rattle.std.proofs.lemmas.List.Quantifiers.{all_pairs_remove}
use Rattle.std.proofs.ByRecursion.{All-from_get_or, All-get_or, All-weaker}
use Rattle.std.proofs.lemmas.Bool.{not-false}
use Rattle.ordered.specs.Order.{placed, Ordered, Fresh}

module _ {X : Type 0} (p : X → X → Bool) where
  -- x precedes y
  abbrev Before : X → X → Type 0
  Before x y = p x y ≡ true

  pairs : (xs : List X) → Ordered p xs → AllPairs Before xs
  pairs xs o i j d below within = o (i, j) d (below, within)

  -- a row in order, by its first entry and the rest
  ordered_cons : (x : X) (xs : List X) → AllByRecursion (Before x) xs → Ordered p xs → Ordered p (x ∷ xs)
  ordered_cons x xs a o at d h = AllPairs-cons Before x xs (λ k z l. All-get_or (Before x) xs k z l a) (pairs xs o) at.0 at.1 d h.0 h.1

  ordered_first : (x : X) (xs : List X) → Ordered p (x ∷ xs) → AllByRecursion (Before x) xs
  ordered_first x xs o = All-from_get_or (Before x) xs x (λ i l. o (0, suc i) x (omega arith, omega arith))

  ordered_rest : (x : X) (xs : List X) → Ordered p (x ∷ xs) → Ordered p xs
  ordered_rest x xs o at d h = o (suc at.0, suc at.1) d (omega arith, omega arith)

  pub ordered_removed : (xs : List X) (i : ℕ) → i < length xs → Ordered p xs → Ordered p (remove xs i)
  ordered_removed xs i within o at d h = all_pairs_remove Before xs i within (pairs xs o) at.0 at.1 d h.0 h.1

  all_placed : (P : X → Type 0) (x : X) (xs : List X) → P x → AllByRecursion P xs → AllByRecursion P (placed p x xs)
  all_placed P x [] h a = (h, tt)
  all_placed P x (y ∷ ys) h a =
      elim (p x y) as (λ b. AllByRecursion P (cond b (x ∷ y ∷ ys) (y ∷ placed p x ys)))
      [ true ↦ (h, a) | false ↦ (a.0, all_placed P x ys h a.1) ]

  pub ordered_placed : {K : Type 0} (key : X → K) →
      ((x y : X) → (key x ≡ key y → ⊥) → p x y ≡ not (p y x)) →
      ((x y z : X) → p x y ≡ true → p y z ≡ true → p x z ≡ true) →
      (x : X) (xs : List X) → Ordered p xs → Fresh key x xs → Ordered p (placed p x xs)
  ordered_placed key one carries x [] o f = ordered_cons x [] tt o
  ordered_placed key one carries x (y ∷ ys) o f =
      let first = ordered_first y ys o in
      elim (p x y) as (λ b. p x y ≡ b → Ordered p (cond b (x ∷ y ∷ ys) (y ∷ placed p x ys))) [
        | true ↦ λ e. ordered_cons x (y ∷ ys) (e, All-weaker (Before y) (Before x) (λ z h. carries x y z e h) ys first) o
        | false ↦ λ e. ordered_cons y (placed p x ys) (all_placed (Before y) x ys (not-false (p y x) (sym (one x y f.0) ∙ e)) first) (ordered_placed key one carries x ys (ordered_rest y ys o) f.1)
      ]
      refl
