-- The refusals of whole files: their numbers and words.
use Rattle.std.specs.Prelude.{ℕ, List, Some, None, codes, Option}
use Rattle.layout.specs.Faults.{read_number, write_number, fault_words, write_words}
use Rattle.files.specs.declared.fault.FileFault.{FileFault}
use Rattle.files.specs.declared.fault.FileFault.TheVariants.{Read, Write, Memory}

-- want of memory is no refusal, and has no number
abbrev pub file_number : FileFault → Option ℕ
file_number (Read f) = Some (read_number f)
file_number (Write f) = Some (write_number f)
file_number Memory = None

abbrev pub file_words : FileFault → List ℕ
file_words (Read f) = fault_words f
file_words (Write f) = write_words f
file_words Memory = codes "there is no memory"
