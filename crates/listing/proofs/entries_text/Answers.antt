use Rattle.listing.proofs.Entries.{entries_more}
use Rattle.listing.proofs.entries_text.Goals as goal

pub loop-i-preserved : goal.loop-i-preserved
loop-i-preserved c = entries_more c.args.records.now c.loop-i.i _ _ _ c.loop-i-test.true c.loop-i.invariant c.in_ok-add_line.ensures.text
