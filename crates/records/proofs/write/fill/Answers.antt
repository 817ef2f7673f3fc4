use Rattle.std.proofs.Common.{◌≡◌, ◌≤◌, length, sym, ap, ◌∙◌, subst, ⊎_elim, refl, arith, rules}
use Rattle.big_endian.specs.BigEndian.{bytes_of, number_of, over}
use Rattle.big_endian.proofs.Numbers.{writes_back}
use Rattle.big_endian.proofs.Writing.{wrote}
use Rattle.layout.specs.declared.kind.Kind.TheVariants as kinds
use Rattle.layout.specs.Records.{plain, Sized}
use Rattle.records.proofs.Filling.{unfilled, more, done, done_either}
use Rattle.records.proofs.write.fill.Goals as goal

pub returns-in-Opening : goal.returns-in-Opening
returns-in-Opening c =
    let v = c.in-Opening in
    let room : 26 ≤ length c.args.space.now = search rules in
    let letter = more (unfilled c.args.space.now) 1 c.letter.result (omega arith) c.put.ensures.after in
    let account = more letter 1 v.account (omega arith) c.put-in-Opening.ensures.after in
    let figure = more account 8 v.figure (omega arith) c.put-in-Opening-2.ensures.after in
    let limit = more figure 8 v.limit (omega arith) c.put-in-Opening-3.ensures.after in
    let all = more limit 8 v.room (omega arith) c.put-in-Opening-4.ensures.after in
    record { after = done c.args.what.now (ap plain v.is) c.kind.ensures.value c.letter.ensures.value c.letter.type_inv all }

pub returns-in-Submit : goal.returns-in-Submit
returns-in-Submit c =
    let v = c.in-Submit in
    let reference = v.reference.now in
    let room : 21 ≤ length c.args.space.now = search rules in
    let eight : length reference ≡ 8 = subst Sized v.is c.requires.sized in
    let own : reference ≡ bytes_of 8 (number_of reference) = sym (writes_back reference c.write_bytes.ensures.bytes) ∙ ap (λ k. bytes_of k (number_of reference)) eight in
    let letter = more (unfilled c.args.space.now) 1 c.letter.result (omega arith) c.put.ensures.after in
    let sender = more letter 1 v.sender (omega arith) c.put-in-Submit.ensures.after in
    let receiver = more sender 1 v.receiver (omega arith) c.put-in-Submit-2.ensures.after in
    let amount = more receiver 8 v.amount (omega arith) c.put-in-Submit-3.ensures.after in
    let priority = more amount 1 v.priority (omega arith) c.put-in-Submit-4.ensures.after in
    let flag = more priority 1 v.flag (omega arith) c.put-in-Submit-5.ensures.after in
    let all = more flag 8 (number_of reference) (omega arith) ((wrote _ _ _ 13 c.write_bytes.result (omega arith) c.write_bytes.ensures.answer).1 ∙ ap (λ bs. over bs 13 c.put-in-Submit-5.new.space) own) in
    record { after = done c.args.what.now (ap plain v.is) c.kind.ensures.value c.letter.ensures.value c.letter.type_inv all }

pub returns-in-Reprioritise : goal.returns-in-Reprioritise
returns-in-Reprioritise c =
    let v = c.in-Reprioritise in
    let room : 7 ≤ length c.args.space.now = search rules in
    let letter = more (unfilled c.args.space.now) 1 c.letter.result (omega arith) c.put.ensures.after in
    let sender = more letter 1 v.sender (omega arith) c.put-in-Reprioritise.ensures.after in
    let receipt = more sender 4 v.receipt (omega arith) c.put-in-Reprioritise-2.ensures.after in
    let all = more receipt 1 v.priority (omega arith) c.put-in-Reprioritise-3.ensures.after in
    record { after = done c.args.what.now (ap plain v.is) c.kind.ensures.value c.letter.ensures.value c.letter.type_inv all }

pub returns-in-Fund : goal.returns-in-Fund
returns-in-Fund c =
    let room : 10 ≤ length c.args.space.now = search rules in
    let letter = more (unfilled c.args.space.now) 1 c.letter.result (omega arith) c.put.ensures.after in
    let account = more letter 1 _ (omega arith) c.put-in-Fund.ensures.after in
    let all = more account 8 _ (omega arith) c.put-in-Fund-2.ensures.after in
    record { after = done_either c.args.what.now kinds.Fund kinds.Draw refl c.kind.ensures.value c.letter.ensures.value c.letter.type_inv all (search rules) }

pub returns-in-Activate : goal.returns-in-Activate
returns-in-Activate c =
    let room : 6 ≤ length c.args.space.now = search rules in
    let letter = more (unfilled c.args.space.now) 1 c.letter.result (omega arith) c.put.ensures.after in
    let sender = more letter 1 _ (omega arith) c.put-in-Activate.ensures.after in
    let all = more sender 4 _ (omega arith) c.put-in-Activate-2.ensures.after in
    record { after = done_either c.args.what.now kinds.Activate kinds.Withdraw refl c.kind.ensures.value c.letter.ensures.value c.letter.type_inv all (search rules) }

pub returns-in-Run : goal.returns-in-Run
returns-in-Run c =
    let letter = more (unfilled c.args.space.now) 1 c.letter.result (omega (arith, c.requires.room)) c.put.ensures.after in
    let what = c.args.what.now in
    record { after = ⊎_elim (λ e. done what (ap plain e) c.kind.ensures.value c.letter.ensures.value c.letter.type_inv letter) (⊎_elim (λ e. done what (ap plain e) c.kind.ensures.value c.letter.ensures.value c.letter.type_inv letter) (λ e. done what (ap plain e) c.kind.ensures.value c.letter.ensures.value c.letter.type_inv letter)) c.in-Run.is }
