-- The refusals of a book: their numbers, what they name, and their words.
use Rattle.std.specs.Prelude.{◌≡◌, ℕ, List, ◌++◌, codes, decimal}
use Rattle.book.specs.declared.fault.BookFault.{BookFault}
use Rattle.book.specs.declared.fault.Reason.{Reason}
use Rattle.book.specs.declared.fault.Reason.TheVariants.{NoAccount, BadSum, AboveSendable, AboveOpen}

abbrev pub reason_number : Reason → ℕ
reason_number NoAccount = 1
reason_number BadSum = 2
reason_number AboveSendable = 6
reason_number AboveOpen = 7

-- the refusal numbered n of a call that named account a and sum s
pub record Names (n a s : ℕ) (f : BookFault) : Type 0 where
  pub number : reason_number f.reason ≡ n
  pub account : f.account ≡ a
  pub sum : f.sum ≡ s

-- a reason in words
abbrev pub reason_words : Reason → List ℕ
reason_words NoAccount = codes "the account is not in the book"
reason_words BadSum = codes "the sum is 0 or above 10^16"
reason_words AboveSendable = codes "the sum is above what the account may send"
reason_words AboveOpen = codes "the sum is above what may come into the account"

-- a refusal in words: account, sum and reason
abbrev pub book_words : BookFault → List ℕ
book_words f = codes "account " ++ (decimal f.account ++ (codes ", sum " ++ (decimal f.sum ++ (codes ": " ++ reason_words f.reason))))
