use Rattle.std.proofs.Common.{◌≡◌, ◌+◌, ◌-◌, ◌<◌, ◌≤◌, length, set, sym, refl, ◌∙◌, inl, inr, arith}
use Rattle.std.proofs.lemmas.List.{length-map}
use Rattle.std.proofs.lemmas.Result.{err_from_is_err_and}
use Rattle.book.specs.Figures.{sendable_at, after_take}
use Rattle.book.proofs.Figures.{take_none}
use Rattle.book.proofs.Moves.{unfit_in, fits_in}
use Rattle.credit.specs.declared.line.Line.{Line}
use Rattle.credit.specs.Credits.{credit_means, limit_of, loan_of, lend}
use Rattle.credit.specs.Books.{credit_of}
use Rattle.credit.proofs.Credits.{length_credit, at, Moved, lends}
use Rattle.credit.proofs.Lines.{line_at, limits_set, loans_set}
use Rattle.credit.proofs.calls.CreditBookBook.take.Goals.{then-part-gt0+in_ok-take, else-part-gt0}
use Rattle.credit.proofs.calls.CreditBookBook.take.Goals as goal

pub returns-in_err-check_move-clause-answer : goal.returns-in_err-check_move-clause-answer
returns-in_err-check_move-clause-answer g c =
    let p = err_from_is_err_and c.from_residual.result c.from_residual.ensures.1 in
    let many = c.count.ensures.value ∙ sym (length_credit (credit_of g.B.Book c.args.self.now)) in
    rw (p.1, p.2) (inl (unfit_in many c.in_err-check_move.ensures.answer), refl)

pub returns-then-sum-own-clause-answer : goal.returns-then-sum-own-clause-answer
returns-then-sum-own-clause-answer g c =
    let b = c.args.self.now in
    let a = c.args.account in
    let k = credit_of g.B.Book b in
    let r = at k a c.in_ok-own.ensures.answer.0 in
    let few = g.met.B.Book.few b.below in
    let line = line_at b.lines a c.index-self-account.result (omega arith) in
    let fits = fits_in (c.count.ensures.value ∙ sym (length_credit k)) c.in_ok-check_move.ensures.answer in
    rw c.at.ensures.value (inr (record { number = refl; account = refl; sum = refl }, fits, omega arith), refl)

pub returns : goal.returns
returns g c =
    let b = c.args.self.now in
    let k = credit_of g.B.Book b in
    let a = c.args.account in
    let s = c.args.sum in
    let own = c.in_ok-own.ensures.answer in
    let r = at k a own.0 in
    let few = g.met.B.Book.few b.below in
    let short : a < length b.lines = omega arith in
    let line = line_at b.lines a c.index-self-account.result short in
    let fits = fits_in (c.count.ensures.value ∙ sym (length_credit k)) c.in_ok-check_move.ensures.answer in
    let le : s ≤ sendable_at (credit_means k) a = omega arith in
    let left = c.if-part-gt0.self in
    let part = c.min-part.result in
    let below : (left.lines ≡ b.lines) × (g.B.Book.means left.below ≡ after_take k.below a part) × (g.B.Book.standing b.below → g.B.Book.standing left.below) =
    elim c.if-part-gt0.branch [ then-part-gt0+in_ok-take w ↦ rw w.self-is (refl, w.in_ok-take.ensures.answer.2, w.take.ensures.keeps.standing) | else-part-gt0 w ↦ rw w.self-is (refl, take_none _ a part (omega arith), λ st. st) ] in
    let done : (l : Line) → l.limit ≡ limit_of k a → l.loan ≡ loan_of k a + (s - part) → Moved k (credit_of g.B.Book (record { below = left.below; lines = set left.lines a l })) (lend k a s) (after_take (credit_means k) a s) =
    λ l e f. rw below.0 (lends k _ a s part r own.0 (rw length-map short) line.lent le (limits_set b.lines a l e) (loans_set b.lines a _ l f) (omega arith) below.1) in
    let done = done _ (rw below.0 (line_at b.lines a c.index-self-account-3.result short).limit) (let old = line_at b.lines a c.index-self-account-2.result short in rw below.0 (omega arith)) in
    record {
      answer = (fits, le, done.means);
      keeps = record { count = done.count; same = tt; standing = λ st. record { below = below.2 st.below; own = done.rule st.own } };
      split = done.split;
    }
