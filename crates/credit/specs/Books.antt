-- The credit book over any book.
use Rattle.std.specs.Prelude.{map}
use Rattle.book.specs.declared.book.Book.{Ghosts}
use Rattle.credit.specs.declared.CreditBook.{CreditBook}
use Rattle.credit.specs.Credits.{Credit, CreditRule}

-- what the book holds
abbrev pub credit_of : {B : Type 0} (G : Ghosts B) → CreditBook B → Credit
credit_of G b = record { limits = map (λ l. l.limit) b.lines; loans = map (λ l. l.loan) b.lines; below = G.means b.below }

-- its standing rule: that of the book below, and its own
pub record Stands {B : Type 0} (G : Ghosts B) (b : CreditBook B) : Type 0 where
  pub below : G.standing b.below
  pub own : CreditRule (credit_of G b)
