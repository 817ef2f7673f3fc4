use Rattle.std.proofs.Common.{sym, ◌∙◌}
use Rattle.big_endian.proofs.Numbers.{bytes8}
use Rattle.big_endian.proofs.U64Number8.to_bytes.Goals as goal

pub returns : goal.returns
returns c = record { bytes = c.to_be_bytes.ensures ∙ sym (bytes8 c.args.self) }
