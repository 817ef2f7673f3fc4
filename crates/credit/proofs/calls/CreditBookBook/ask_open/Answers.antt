use Rattle.std.proofs.Common.{◌<◌, length, arith}
use Rattle.std.proofs.lemmas.Result.{err_from_is_err_and}
use Rattle.credit.specs.Books.{credit_of}
use Rattle.credit.proofs.Credits.{length_credit, at}
use Rattle.credit.proofs.Lines.{line_at}
use Rattle.credit.proofs.calls.CreditBookBook.ask_open.Goals as goal

pub returns-in_err-own : goal.returns-in_err-own
returns-in_err-own g c =
    let p = err_from_is_err_and c.from_residual.result c.from_residual.ensures.1 in
    let bad = c.in_err-own.ensures.answer in
    record { answer = rw (p.1, p.2) (bad.0, rw (length_credit (credit_of g.B.Book c.args.self.now)) bad.1) }

pub returns : goal.returns
returns g c =
    let b = c.args.self.now in
    let own = c.in_ok-own.ensures.answer in
    let a = c.args.account in
    let r = at (credit_of g.B.Book b) a own.0 in
    let few = g.met.B.Book.few b.below in
    let short : a < length b.lines = omega arith in
    let line = line_at b.lines a c.index-self-account.result short in
    record { answer = (r.within, omega arith) }
