-- What the writer answers, and what it leaves in the space.
use Rattle.std.specs.Prelude.{◌≡◌, ℕ, ◌<◌, ◌≤◌, List, ◌++◌, length, drop, Ok, Err, Result}
use Rattle.layout.specs.declared.record.Record.{Record}
use Rattle.layout.specs.declared.fault.WriteFault.{WriteFault}
use Rattle.layout.specs.Records.{plain, Sized, encode, size_of}
use Rattle.layout.specs.Faults.{write_number}

-- the record's bytes begin the space, and the rest is as it was
pub record Written (w : Record) (old new : List ℕ) (n : ℕ) : Type 0 where
  pub sized : Sized w
  pub size : n ≡ size_of (plain w)
  pub room : n ≤ length old
  pub after : new ≡ encode (plain w) ++ drop n old

-- nothing is written: 16 for a reference that is not of eight bytes, else 13 for a space that is too short
pub record Unwritten (w : Record) (old new : List ℕ) (f : WriteFault) : Type 0 where
  pub same : new ≡ old
  pub reference : write_number f ≡ 16 → Sized w → ⊥
  pub space : write_number f ≡ 13 → Sized w × (length old < size_of (plain w))

-- what a write of w into a space answers; the space held old, and now holds new
abbrev pub Wrote : Record → List ℕ → List ℕ → Result ℕ WriteFault → Type 0
Wrote w old new (Ok n) = Written w old new n
Wrote w old new (Err f) = Unwritten w old new f
