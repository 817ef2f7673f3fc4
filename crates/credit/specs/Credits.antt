-- Lending: what a credit book holds for its accounts, what that means, and how takes and puts move it.
use Rattle.std.specs.Prelude.{◌≡◌, ℕ, ◌+◌, ◌-◌, ◌<◌, ◌≤◌, min, List, slice_index, slice_set}
use Rattle.book.specs.Figures.{Figures, figures, sendable_at, after_take, after_put}
use Rattle.book.specs.Layers.{layered}

-- a limit and a loan for each account, and the meaning of the book below
pub record Credit : Type 0 where
  pub limits : List ℕ
  pub loans : List ℕ
  pub below : List Figures

abbrev pub limit_of : Credit → ℕ → ℕ
limit_of c a = slice_index c.limits a

abbrev pub loan_of : Credit → ℕ → ℕ
loan_of c a = slice_index c.loans a

-- what the book below can send, and the limit less the loan; what may come in below, and the loan
abbrev pub credit_means : Credit → List Figures
credit_means c = layered (λ k f. figures (f.sendable + limit_of c k - loan_of c k) (f.«open» + loan_of c k)) c.below

-- no loan passes its limit, and none stands while the book below can still send for its account
pub record CreditRule (c : Credit) : Type 0 where
  pub lent : (k : ℕ) → loan_of c k ≤ limit_of c k
  pub dry : (k : ℕ) → 0 < loan_of c k → sendable_at c.below k ≡ 0

-- a take uses up the book below first, and the rest is added to the loan
abbrev pub lend : Credit → ℕ → ℕ → Credit
lend c a s = record {
  limits = c.limits;
  loans = slice_set c.loans a (loan_of c a + (s - sendable_at c.below a));
  below = after_take c.below a (min s (sendable_at c.below a));
}

-- a put lowers the loan first, and the rest goes below
abbrev pub repay : Credit → ℕ → ℕ → Credit
repay c a s = record {
  limits = c.limits;
  loans = slice_set c.loans a (loan_of c a - s);
  below = after_put c.below a (s - loan_of c a);
}
