use Rattle.std.proofs.Common.{sym, arith}
use Rattle.big_endian.proofs.Numbers.{bytes1}
use Rattle.big_endian.proofs.U8Number1.to_bytes.Goals as goal

pub returns : goal.returns
returns c = record { bytes = sym (bytes1 c.args.self (omega arith)) }
