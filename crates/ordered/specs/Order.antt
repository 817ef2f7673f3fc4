-- Where an entry stands in a row, and when a row is in order; p says which of two entries precedes the other.
use Rattle.std.specs.Prelude.{◌≡◌, ℕ, suc, ◌<◌, Bool, true, cond, List, [], ◌∷◌, length, ◌≢◌, slice_index_or}
use Rattle.std.specs.List.{AllByRecursion}

-- how many stand ahead of x: all up to the first that x precedes
abbrev pub ahead : {X : Type 0} → (X → X → Bool) → X → List X → ℕ
ahead p x [] = 0
ahead p x (y ∷ ys) = cond (p x y) 0 (suc (ahead p x ys))

-- the row with x put before the first that it precedes, or last where it precedes none
abbrev pub placed : {X : Type 0} → (X → X → Bool) → X → List X → List X
placed p x [] = x ∷ []
placed p x (y ∷ ys) = cond (p x y) (x ∷ y ∷ ys) (y ∷ placed p x ys)

-- of the entries at two places the earlier precedes the later; the places are one pair, so that a ghost field can state it
abbrev pub Ordered : {X : Type 0} → (X → X → Bool) → List X → Type 0
Ordered {X} p xs = (at : ℕ × ℕ) (d : X) → (at.0 < at.1) × (at.1 < length xs) → p (slice_index_or xs at.0 d) (slice_index_or xs at.1 d) ≡ true

-- no entry of the row has x's key
abbrev pub Fresh : {X K : Type 0} → (X → K) → X → List X → Type 0
Fresh key x xs = AllByRecursion (λ y. key x ≢ key y) xs
