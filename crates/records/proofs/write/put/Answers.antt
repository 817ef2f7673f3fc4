use Rattle.big_endian.proofs.Writing.{wrote_number}
use Rattle.records.proofs.write.put.Goals as goal

pub unwrap-requires : goal.unwrap-requires
unwrap-requires g c = (wrote_number g.row.N _ _ _ _ c.write.result c.requires c.write.ensures.answer).0
