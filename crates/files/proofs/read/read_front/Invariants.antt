use Rattle.std.proofs.Common.{◌≡◌, ◌-◌, length, vec_items}
use Rattle.files.specs.Files.{Follow}
use Rattle.files.proofs.read.read_front.Given as goal

abbrev pub invariant-loop-record : goal.invariant-loop-record
invariant-loop-record l = Follow l.reader.input 0 (vec_items l.records) l.reader.at × (l.reader.input ≡ l.initial.reader.input)

abbrev pub decreases-loop-record : goal.decreases-loop-record
decreases-loop-record l = length l.reader.input.now - l.reader.at
