use Rattle.std.proofs.Common.{sym, refl, ◌∙◌, arith}
use Rattle.rows.proofs.Rows.{took}
use Rattle.rows.proofs.figure_book.FigureBookBook.take.Goals as goal

pub returns-clause-answer : goal.returns-clause-answer
returns-clause-answer g c =
    let found = sym c.figure.ensures.value ∙ c.unwrap-figure.ensures in
    let w = rw c.unwrap.ensures at c.write.ensures.answer in
    took _ _ c.args.account c.unwrap-figure.result _ (g.met.R.Row.low c.args.self.now.row) found w.2 _ c.args.sum c.count.ensures.value c.in_ok-check_move.ensures.answer refl (omega arith)
