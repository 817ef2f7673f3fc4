use Rattle.std.proofs.Common.{sym, ◌∙◌}
use Rattle.big_endian.proofs.Numbers.{bytes4}
use Rattle.big_endian.proofs.U32Number4.to_bytes.Goals as goal

pub returns : goal.returns
returns c = record { bytes = c.to_be_bytes.ensures ∙ sym (bytes4 c.args.self) }
