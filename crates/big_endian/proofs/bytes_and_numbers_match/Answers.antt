use Rattle.big_endian.proofs.Numbers.{reads_back, writes_back}
use Rattle.big_endian.proofs.bytes_and_numbers_match.Goals as goal

pub returns : goal.returns
returns c = record { reads_back = reads_back; writes_back = writes_back }
