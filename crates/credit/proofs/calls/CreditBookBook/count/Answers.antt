use Rattle.std.proofs.Common.{length, sym, ap, ◌∙◌}
use Rattle.credit.specs.Books.{credit_of}
use Rattle.credit.proofs.Credits.{length_credit}
use Rattle.credit.proofs.calls.CreditBookBook.count.Goals as goal

pub returns : goal.returns
returns g c = record {
  value = c.count.ensures.value ∙ ap (λ b. length (g.B.Book.means b)) c.below.ensures.value ∙ sym (length_credit (credit_of g.B.Book c.args.self.now));
}
