-- What holds of every file and every record, whatever reads or writes it.
use Rattle.std.specs.Prelude.{◌≡◌, ℕ, ◌+◌, ◌<◌, List, ◌++◌, length, take, drop}
use Rattle.std.specs.Borrow.{Bor}
use Rattle.layout.specs.declared.fault.ReadFault.{ReadFault}
use Rattle.layout.specs.declared.fault.WriteFault.{WriteFault}
use Rattle.layout.specs.declared.record.Record.{Record}
use Rattle.layout.specs.Records.{Plain, plain}
use Rattle.layout.specs.Faults.{write_number}
use Rattle.records.specs.Reading.{Stands, Lent, Refuses}
use Rattle.records.specs.Writing.{Written, Unwritten}

-- a record that the reader lends from a file at a place is written out as it stood there; only want of space
-- refuses it
pub record WritesBack (file : Bor (List ℕ)) (at : ℕ) (w : Record) (next : ℕ) : Type 0 where
  pub same : (n : ℕ) (old new : List ℕ) → Written w old new n → (at + n ≡ next) × (new ≡ take n (drop at file.now) ++ drop n old)
  pub room : (f : WriteFault) (old new : List ℕ) → Unwritten w old new f → (write_number f ≡ 13) × (at + length old < next)

abbrev pub WritesWhatStood : Type 0
WritesWhatStood = (file : Bor (List ℕ)) (at : ℕ) (w : Record) (next : ℕ) → Stands file.now at (plain w) next → Lent file (at + 13) w → WritesBack file at w next

-- at most one record stands at a place
abbrev pub OneStands : Type 0
OneStands = (s : List ℕ) (at : ℕ) (p q : Plain) (m n : ℕ) → Stands s at p m → Stands s at q n → (p ≡ q) × (m ≡ n)

-- and none where the reader refuses
abbrev pub NoneStands : Type 0
NoneStands = (s : List ℕ) (at : ℕ) (f : ReadFault) → Refuses s at f → (p : Plain) (next : ℕ) → Stands s at p next → ⊥
