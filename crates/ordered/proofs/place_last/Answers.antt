use Rattle.std.proofs.Common.{sym, subst, rules}
use Rattle.std.proofs.lemmas.List.{take_rest}
use Rattle.ordered.specs.Order.{Ordered}
use Rattle.ordered.proofs.Orders.{ordered_placed}
use Rattle.ordered.proofs.Turns.{placed_last}
use Rattle.ordered.proofs.place_last.Goals as goal

pub returns-in-Some : goal.returns-in-Some
returns-in-Some g c =
    let k = g.T.Ranked in
    let laws = g.met.T.Ranked in
    let row = c.args.row.now in
    let place = c.place_of-place in
    let after = placed_last k.precedes _ c.in-Some.last.now row _ _ place.result c.in-Some.ensures.cases.0 place.ensures.value place.ensures.within (take_rest row place.result) c.rotate_right.ensures.after in
    record {
      after = after;
      empty = search rules;
      ordered = λ xs x is o f. subst (Ordered k.precedes) (sym (after xs x is)) (ordered_placed k.precedes k.key laws.just_one_precedes laws.precedence_carries x xs o f);
    }
