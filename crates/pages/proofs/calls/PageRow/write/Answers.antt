use Rattle.std.proofs.Common.{arith}
use Rattle.pages.proofs.Pages.{has_room}
use Rattle.pages.proofs.calls.PageRow.write.Goals as goal

pub unwrap-requires : goal.unwrap-requires
unwrap-requires c = has_room c.args.self.now c.args.place c.args.figure _ _ c.write.result (omega arith) c.deref_mut.ensures.value c.write.ensures.answer
