use Rattle.records.proofs.WritingBack.{writes_what_stood}
use Rattle.records.proofs.laws.what_is_read_is_written_back.Goals as goal

pub returns : goal.returns
returns c = record { same = writes_what_stood }
