-- What a row of figures means, and what a write to it leaves.
use Rattle.std.specs.Prelude.{◌≡◌, ℕ, ◌-◌, ◌^◌, ◌<◌, ◌≤◌, ◌⊎◌, List, map, length, Ok, Err, Result, slice_index, slice_set}
use Rattle.rows.specs.declared.row.NotWritten.{NotWritten}
use Rattle.book.specs.Figures.{Figures, figures}

-- a figure may be sent, and what is left up to 10^16 may come in
abbrev pub table_means : List ℕ → List Figures
table_means ns = map (λ n. figures n (10 ^ 16 - n)) ns

-- no figure passes 10^16
abbrev pub Low : List ℕ → Type 0
Low ns = (k : ℕ) → slice_index ns k ≤ 10 ^ 16

-- what a write of figure n at place k answers and leaves; a row that refuses it is the very same
abbrev pub WriteAnswers : {R : Type 0} → (R → List ℕ) → (R → ℕ → ℕ → R → Type 0) → R → ℕ → ℕ → Result (Unit {0}) NotWritten → R → Type 0
WriteAnswers figures wrote old k n (Ok u) new =
    (k < length (figures old)) × (n ≤ 10 ^ 16) × (figures new ≡ slice_set (figures old) k n) × wrote old k n new
WriteAnswers figures wrote old k n (Err f) new = ((length (figures old) ≤ k) ⊎ (10 ^ 16 < n)) × (new ≡ old)
