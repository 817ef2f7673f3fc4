use Rattle.std.proofs.Common.{◌≡◌, take, vec_items}
use Rattle.std.specs.List.{flat_map}
use Rattle.layout.specs.Records.{encode}
use Rattle.files.specs.Files.{said}
use Rattle.files.proofs.write.write_file.Given as goal

abbrev pub invariant-loop-placed : goal.invariant-loop-placed
invariant-loop-placed l = vec_items l.file ≡ flat_map encode (said (take l.placed-index l.records))
