-- A book that stands over another book: its figures are made, account by account, from those below.
use Rattle.std.specs.Prelude.{◌≡◌, ℕ, suc, ◌^◌, min, List, [], ◌∷◌, take, Ok, Err, Result, slice_index}
use Rattle.book.specs.declared.fault.BookFault.{BookFault}
use Rattle.book.specs.Figures.{Figures}

-- each account's figures, made by its number
abbrev pub layered : (ℕ → Figures → Figures) → List Figures → List Figures
layered F [] = []
layered F (f ∷ m) = F 0 f ∷ layered (λ k. F (suc k)) m

-- one number for each of 16 accounts: each at most 10^15, and 0 where the row has none
abbrev pub Capped : List ℕ → List ℕ → Type 0
Capped row r = (k : ℕ) → slice_index r k ≡ min (slice_index (take 16 row) k) (10 ^ 15)

-- what a layer holds after a move: what the move makes of it, or after a refusal what it held before
abbrev pub Leaves : {X : Type 0} → X → X → Result (Unit {0}) BookFault → X → Type 0
Leaves before moved (Ok u) after = after ≡ moved
Leaves before moved (Err f) after = after ≡ before
