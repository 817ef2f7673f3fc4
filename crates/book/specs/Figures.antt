-- What a book means: two numbers for each account.
use Rattle.std.specs.Prelude.{ℕ, ◌+◌, ◌-◌, List, slice_index_or, slice_set}

-- what may still go out of an account, and what may still come in
pub record Figures : Type 0 where
  pub sendable : ℕ
  pub «open» : ℕ

abbrev pub figures : ℕ → ℕ → Figures
figures s o = record { sendable = s; «open» = o }

-- an account that is not in the book can neither send nor receive
abbrev pub none : Figures
none = figures 0 0

abbrev pub sendable_at : List Figures → ℕ → ℕ
sendable_at m a = (slice_index_or m a none).sendable

abbrev pub open_at : List Figures → ℕ → ℕ
open_at m a = (slice_index_or m a none).«open»

-- the meaning after s went out of account a: every other account is as it was
abbrev pub after_take : List Figures → ℕ → ℕ → List Figures
after_take m a s = slice_set m a (figures (sendable_at m a - s) (open_at m a + s))

-- the meaning after s came into account a
abbrev pub after_put : List Figures → ℕ → ℕ → List Figures
after_put m a s = slice_set m a (figures (sendable_at m a + s) (open_at m a - s))
