-- The records of a whole file.
use Rattle.std.specs.Prelude.{◌≡◌, ℕ, ◌+◌, List, [], ◌∷◌, ◌++◌, map, length, Some, None, Ok, Err, vec_items, Option, Result, Vec}
use Rattle.std.specs.Borrow.{Bor}
use Rattle.std.specs.List.{flat_map, AllByRecursion}
use Rattle.std.specs.declared.alloc.Global.{Global}
use Rattle.layout.specs.declared.fault.ReadFault.{ReadFault}
use Rattle.files.specs.declared.fault.FileFault.{FileFault}
use Rattle.files.specs.declared.fault.FileFault.TheVariants.{Read, Write, Memory}
use Rattle.layout.specs.declared.record.Record.{Record}
use Rattle.files.specs.declared.placed.Placed.{Placed}
use Rattle.layout.specs.Records.{Plain, plain, Sized, Sound, encode}
use Rattle.layout.specs.Faults.{place_of, write_number}
use Rattle.records.specs.Reading.{Stands, Lent, Refuses}

-- what some records say, in order
abbrev pub said : List Placed → List Plain
said ws = map (λ w. plain w.«record») ws

-- the records stand in the file one after another, from a place on up to an end; each names its place, and its
-- reference is lent from the file there
abbrev pub Follow : Bor (List ℕ) → ℕ → List Placed → ℕ → Type 0
Follow file at [] end = at ≡ end
Follow file at (w ∷ ws) end = (w.place ≡ at) × Lent file (at + 13) w.«record» × ((next : ℕ) × Stands file.now at (plain w.«record») next × Follow file next ws end)

-- the bytes of the records, one after another, are s
pub record MakesUp (ps : List Plain) (s : List ℕ) : Type 0 where
  pub bytes : flat_map encode ps ≡ s
  pub sound : AllByRecursion Sound ps

-- the records of a file that is read to its end: they make it up, and no other list does
pub record Whole (file : Bor (List ℕ)) (ws : List Placed) : Type 0 where
  pub follow : Follow file 0 ws (length file.now)
  pub makes_up : MakesUp (said ws) file.now
  pub only : (ps : List Plain) → MakesUp ps file.now → ps ≡ said ws

-- the records of a file up to a refusal: no record stands there, and no list of records makes up the file
pub record Stopped (file : Bor (List ℕ)) (ws : List Placed) (f : ReadFault) : Type 0 where
  pub follow : Follow file 0 ws (place_of f)
  pub refuses : Refuses file.now (place_of f) f
  pub none : (p : Plain) (next : ℕ) → Stands file.now (place_of f) p next → ⊥
  pub unmade : (ps : List Plain) → MakesUp ps file.now → ⊥

-- the records of a file from its start, up to its end or a refusal
abbrev pub Fronts : Bor (List ℕ) → List Placed → Option ReadFault → Type 0
Fronts file ws None = Whole file ws
Fronts file ws (Some f) = Stopped file ws f

-- what the reader of a whole file answers: its records, or why there are none; where memory fails, nothing is said
abbrev pub Filed : Bor (List ℕ) → Result (Vec Placed Global) FileFault → Type 0
Filed file (Ok v) = Whole file (vec_items v)
Filed file (Err (Read f)) = (ws : List Placed) × Stopped file ws f
Filed file (Err (Write f)) = ⊥
Filed file (Err Memory) = Unit {0}

-- what adding a record to the end of a file answers; the file held old, and now holds new
abbrev pub Appended : Record → List ℕ → List ℕ → Result (Unit {0}) FileFault → Type 0
Appended w old new (Ok u) = Sized w × (new ≡ old ++ encode (plain w))
Appended w old new (Err (Read f)) = ⊥
Appended w old new (Err (Write f)) = (write_number f ≡ 16) × (Sized w → ⊥) × (new ≡ old)
Appended w old new (Err Memory) = new ≡ old

-- what writing records to a new file answers: their bytes, one after another, or 16 for a reference that is not of
-- eight bytes
abbrev pub Joined : List Placed → Result (Vec ℕ Global) FileFault → Type 0
Joined ws (Ok v) = vec_items v ≡ flat_map encode (said ws)
Joined ws (Err (Read f)) = ⊥
Joined ws (Err (Write f)) = (write_number f ≡ 16) × (AllByRecursion (λ w. Sized w.«record») ws → ⊥)
Joined ws (Err Memory) = Unit {0}
