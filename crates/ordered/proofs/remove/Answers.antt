use Rattle.std.proofs.Common.{vec_items, arith}
use Rattle.ordered.proofs.Orders.{ordered_removed}
use Rattle.ordered.proofs.remove.Goals as goal

pub returns-clause-ordered : goal.returns-clause-ordered
returns-clause-ordered g c = λ o. rw c.remove.ensures.items (ordered_removed g.T.Ranked.precedes (vec_items c.args.row.now) c.args.place (omega arith) o)
