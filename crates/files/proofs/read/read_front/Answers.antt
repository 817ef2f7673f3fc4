use Rattle.std.proofs.Common.{vec_items, ◌∙◌}
use Rattle.files.proofs.Files.{follow_next, whole_at, stopped_at}
use Rattle.files.proofs.read.read_front.Goals as goal
use Rattle.files.proofs.read.read_front.Goals.{in-Ok-None, in-Err}

pub loop-record-preserved : goal.loop-record-preserved
loop-record-preserved c =
    let told = c.in-Ok-Some.ensures in
    let before = c.loop-record in (
      follow_next before.reader.input _ (vec_items before.records) _ (record { place = c.place-place.result; «record» = c.in-Ok-Some.«record» }) before.reader.at _ _ before.invariant.0 told.same c.in_ok-push-in-Ok-Some.ensures.items c.place-place.ensures.value c.in-Ok-Some.field-0-is told.answer,
      told.same ∙ before.invariant.1,
    )

pub returns : goal.returns
returns c =
    let before = c.loop-record in
    let file = before.invariant.1 ∙ c.new-reader.ensures.input in
    record {
      answer = elim c.match-next_record.branch [
        | in-Ok-None w ↦ rw w.stop-is (whole_at before.reader.input _ _ before.reader.at _ _ before.invariant.0 file w.in-Ok-None.field-0-is w.in-Ok-None.ensures.answer)
        | in-Err w ↦ rw w.stop-is (stopped_at before.reader.input _ _ before.reader.at w.in-Err.fault before.invariant.0 file w.in-Err.ensures.answer.0)
      ];
    }
