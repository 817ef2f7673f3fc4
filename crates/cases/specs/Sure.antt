-- The rules of a move leave one outcome.
use Rattle.std.specs.Prelude.{◌≡◌, ℕ, List, Result}
use Rattle.book.specs.declared.fault.BookFault.{BookFault}
use Rattle.book.specs.declared.fault.Reason.TheVariants.{AboveSendable}
use Rattle.book.specs.Figures.{Figures}
use Rattle.book.specs.Moves.{Taken, Put}

-- from one meaning, two outcomes of the same call are the same answer and the same meaning after it
abbrev pub OneOutcome : (List Figures → ℕ → ℕ → Result (Unit {0}) BookFault → List Figures → Type 0) → Type 0
OneOutcome Call =
    (m n n' : List Figures) (a s : ℕ) (r r' : Result (Unit {0}) BookFault) → Call m a s r n → Call m a s r' n' → (r ≡ r') × (n ≡ n')

abbrev pub MovesHaveOneOutcome : Type 0
MovesHaveOneOutcome = OneOutcome Taken × OneOutcome Put

-- x is such, and nothing else is
abbrev pub Only : {X : Type 0} → (X → Type 0) → X → Type 0
Only {X = X} P x = P x × ((y : X) → P y → y ≡ x)

-- refusal 6 of a take of s from account 0
abbrev pub above : ℕ → BookFault
above s = record { account = 0; sum = s; reason = AboveSendable }
