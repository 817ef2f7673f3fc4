use Rattle.std.proofs.Common.{◌+◌, ◌<◌, length, ap, ◌∙◌, arith, length-drop, rules}
use Rattle.std.proofs.ByRecursion.{All-from_get_or}
use Rattle.std.proofs.lemmas.List.{take_rest}
use Rattle.layout.specs.declared.fault.ReadFault.TheVariants.{CutBody}
use Rattle.records.specs.Reading.{Refuses}
use Rattle.records.specs.Parsing.{parsed}
use Rattle.records.proofs.Splitting.{one_stands, none_stands}
use Rattle.records.proofs.Standing.{stands, lent_rest}
use Rattle.records.proofs.read.read_record.Goals as goal

pub returns-then-rest-size : goal.returns-then-rest-size
returns-then-rest-size c =
    let refused : Refuses c.args.input.now c.args.at (CutBody c.args.at) = search rules in
    record { answer = refused; alone = none_stands c.args.input.now c.args.at _ refused }

pub returns : goal.returns
returns c =
    let s = c.args.input.now in
    let at = c.args.at in
    let k = c.in_ok-kind.kind in
    let rest = take_rest s (at + 1) in
    let bytes = All-from_get_or (λ d. d < 256) s 0 (λ i h. omega (arith, c.type_inv.input i)) in
    let size = c.body_len-size.ensures.value in
    let told = c.decode.ensures in
    let here = stands s at k bytes c.if-at-input.false (search rules) (told.says ∙ ap (parsed k) rest) (ap (λ n. at + 1 + n) size) (omega (arith, c.if-rest-size.false, ap length rest, length-drop (at + 1) s)) in
    record {
      answer = (here, lent_rest c.args.input (at + 1) 12 _ c.decode.result (omega arith) rest told.lent);
      alone = λ p n h. one_stands s at p _ n _ h here;
    }
