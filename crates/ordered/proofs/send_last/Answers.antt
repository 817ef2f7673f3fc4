use Rattle.std.proofs.Common.{◌++◌, take, drop, ap, ◌∙◌, arith}
use Rattle.std.proofs.lemmas.List.{take_rest}
use Rattle.ordered.proofs.Turns.{turned_left}
use Rattle.ordered.proofs.send_last.Goals as goal

pub returns : goal.returns
returns g c =
    let row = c.args.row.now in
    let place = c.args.place in
    record { answer = (omega arith, turned_left row _ place (c.rotate_left.ensures.after ∙ ap (λ ws. drop 1 ws ++ take 1 ws) (take_rest row place))) }
