-- What each call of a book answers, the refusals in their order, and what it leaves.
use Rattle.std.specs.Prelude.{◌≡◌, ℕ, ◌^◌, ◌<◌, ◌≤◌, min, ◌⊎◌, List, length, Ok, Err, OnErr, Result}
use Rattle.book.specs.declared.fault.BookFault.{BookFault}
use Rattle.book.specs.Figures.{Figures, sendable_at, open_at, after_take, after_put}
use Rattle.book.specs.Faults.{Names}

-- a sum that no book moves
abbrev pub IsBadSum : ℕ → Type 0
IsBadSum s = (s ≡ 0) ⊎ (10 ^ 16 < s)

-- account and sum are such as a book of so many accounts may move
pub record Fits (count a s : ℕ) : Type 0 where
  pub here : a < count
  pub some : 0 < s
  pub small : s ≤ 10 ^ 16

-- refusal 1 for the account, then 2 for the sum
abbrev pub Unfit : ℕ → ℕ → ℕ → BookFault → Type 0
Unfit count a s f = (Names 1 a s f × (count ≤ a)) ⊎ (Names 2 a s f × (a < count) × IsBadSum s)

-- the refusals of a move in their order; the last has number n, for a sum above `most`
abbrev pub Refuses : ℕ → ℕ → ℕ → ℕ → ℕ → BookFault → Type 0
Refuses count a s n most f = Unfit count a s f ⊎ (Names n a s f × Fits count a s × (most < s))

-- whether the account is in a book of so many; a question names the sum 0
abbrev pub CheckedAccount : ℕ → ℕ → Result (Unit {0}) BookFault → Type 0
CheckedAccount count a (Ok u) = a < count
CheckedAccount count a (Err f) = Names 1 a 0 f × (count ≤ a)

-- whether account and sum fit
abbrev pub Checked : ℕ → ℕ → ℕ → Result (Unit {0}) BookFault → Type 0
Checked count a s (Ok u) = Fits count a s
Checked count a s (Err f) = Unfit count a s f

-- what a question for the figure v of account a answers
abbrev pub Answers : ℕ → ℕ → ℕ → Result ℕ BookFault → Type 0
Answers count a v (Ok n) = (a < count) × (n ≡ min v (10 ^ 18))
Answers count a v (Err f) = Names 1 a 0 f × (count ≤ a)

-- what a take of s from account a answers and leaves
abbrev pub Taken : List Figures → ℕ → ℕ → Result (Unit {0}) BookFault → List Figures → Type 0
Taken m a s (Ok u) after = Fits (length m) a s × (s ≤ sendable_at m a) × (after ≡ after_take m a s)
Taken m a s (Err f) after = Refuses (length m) a s 6 (sendable_at m a) f × (after ≡ m)

-- what a put of s to account a answers and leaves
abbrev pub Put : List Figures → ℕ → ℕ → Result (Unit {0}) BookFault → List Figures → Type 0
Put m a s (Ok u) after = Fits (length m) a s × (s ≤ open_at m a) × (after ≡ after_put m a s)
Put m a s (Err f) after = Refuses (length m) a s 7 (open_at m a) f × (after ≡ m)

-- what every move keeps: the number of accounts, the very same book after a refusal, and the standing rule
pub record MoveKeeps {B : Type 0} (means : B → List Figures) (stands : B → Type 0) (old : B) (r : Result (Unit {0}) BookFault) (new : B) : Type 0 where
  pub count : length (means new) ≡ length (means old)
  pub same : OnErr r (new ≡ old)
  pub standing : stands old → stands new
