-- The refusals of reader and writer: their numbers, what they name, and their words.
use Rattle.std.specs.Prelude.{ℕ, List, codes}
use Rattle.layout.specs.declared.fault.ReadFault.{ReadFault}
use Rattle.layout.specs.declared.fault.ReadFault.TheVariants.{UnknownLetter, CutBody}
use Rattle.layout.specs.declared.fault.WriteFault.{WriteFault}
use Rattle.layout.specs.declared.fault.WriteFault.TheVariants.{BadReference, ShortSpace}

abbrev pub read_number : ReadFault → ℕ
read_number (UnknownLetter place) = 15
read_number (CutBody place) = 16

-- the place of the letter
abbrev pub place_of : ReadFault → ℕ
place_of (UnknownLetter place) = place
place_of (CutBody place) = place

-- a refusal in words
abbrev pub fault_words : ReadFault → List ℕ
fault_words (UnknownLetter place) = codes "no kind of record has this letter"
fault_words (CutBody place) = codes "the file ends inside this record"

abbrev pub write_number : WriteFault → ℕ
write_number BadReference = 16
write_number ShortSpace = 13

abbrev pub write_words : WriteFault → List ℕ
write_words BadReference = codes "the reference is not of eight bytes"
write_words ShortSpace = codes "the space is too short for the record"
