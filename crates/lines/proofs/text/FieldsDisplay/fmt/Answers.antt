use Rattle.std.proofs.Common.{sym, ap}
use Rattle.std.proofs.Output.{has_written_of_eq}
use Rattle.lines.specs.Lines.{fields_text}
use Rattle.lines.proofs.text.FieldsDisplay.fmt.Goals as goal

pub returns-in-Submit-clause-writes : goal.returns-in-Submit-clause-writes
returns-in-Submit-clause-writes g c plain ok = has_written_of_eq _ _ _ _ _ (ap fields_text (sym c.in-Submit.is)) (c.write-in-Submit.ensures.writes plain ok)
