-- Worked figures of a credit book: a limit of 50 over a table book of one account that holds 100.
use Rattle.std.specs.Prelude.{ℕ, [], ◌∷◌, Ok, Err, Result}
use Rattle.book.specs.declared.fault.BookFault.{BookFault}
use Rattle.book.specs.Faults.{Names}
use Rattle.book.specs.Moves.{Taken, Put}
use Rattle.book.specs.Layers.{Leaves}
use Rattle.rows.specs.Rows.{table_means}
use Rattle.credit.specs.Credits.{Credit, credit_means, lend, repay}
use Rattle.cases.specs.Sure.{Only, above}

-- an answer, and what the book then holds
abbrev pub Outcome : Type 0
Outcome = Result (Unit {0}) BookFault × Credit

-- a loan of l over a figure of n below
abbrev pub holds : ℕ → ℕ → Credit
holds l n = record { limits = 50 ∷ []; loans = l ∷ []; below = table_means (n ∷ []) }

-- what a credit book promises of a take from account 0, and of a put to it
abbrev pub Takes : Credit → ℕ → Outcome → Type 0
Takes c s o = Taken (credit_means c) 0 s o.0 (credit_means o.1) × Leaves c (lend c 0 s) o.0 o.1

abbrev pub Puts : Credit → ℕ → Outcome → Type 0
Puts c s o = Put (credit_means c) 0 s o.0 (credit_means o.1) × Leaves c (repay c 0 s) o.0 o.1

pub record CreditFigures : Type 0 where
  -- a take of 151 is refused 6, and nothing changes
  pub six : Names 6 0 151 (above 151)
  pub short : Only (Takes (holds 0 100) 151) (Err (above 151), holds 0 100)
  -- a take of 150 leaves a loan of 50
  pub lent : Only (Takes (holds 0 100) 150) (Ok tt, holds 50 0)
  -- a put of 60 then leaves no loan, and 10 below
  pub repaid : Only (Puts (holds 50 0) 60) (Ok tt, holds 0 10)
