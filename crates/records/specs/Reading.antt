-- What the reader answers at a place of a file.
use Rattle.std.specs.Prelude.{◌≡◌, ℕ, ◌+◌, ◌<◌, ◌≤◌, List, ◌++◌, length, take, drop, IfSome, Some, None, Ok, Err, Option, Result, ◌≢◌, slice_index}
use Rattle.std.specs.Borrow.{Bor}
use Rattle.layout.specs.declared.kind.Kind.{Kind}
use Rattle.layout.specs.declared.record.Record.{Record}
use Rattle.layout.specs.declared.fault.ReadFault.{ReadFault}
use Rattle.layout.specs.Layout.{letter_of, body_of}
use Rattle.layout.specs.Records.{Plain, plain, reference_of, Sound, encode}
use Rattle.layout.specs.Faults.{read_number, place_of}

-- the record p stands in s at a place, and next is the place after it
pub record Stands (s : List ℕ) (at : ℕ) (p : Plain) (next : ℕ) : Type 0 where
  pub bytes : drop at s ≡ encode p ++ drop next s
  pub after : next ≡ at + length (encode p)
  pub within : next ≤ length s
  pub sound : Sound p

-- the address of what stands n bytes after a file's start
abbrev pub address : Bor (List ℕ) → ℕ → ℕ × ℕ
address file n = (file.ref_ptr.0, n + file.ref_ptr.1)

-- a record's reference is the eight bytes of the file at a place: the file's own, and no copy of them
abbrev pub Lent : Bor (List ℕ) → ℕ → Record → Type 0
Lent file place w = IfSome (reference_of w) (λ reference. (reference.now ≡ take 8 (drop place file.now)) × (reference.ref_ptr ≡ address file place))

-- the reader refuses at a place before the file's end: 15 where no kind has the letter there, 16 where the file
-- ends inside the body of the kind that has it
pub record Refuses (s : List ℕ) (at : ℕ) (f : ReadFault) : Type 0 where
  pub inside : at < length s
  pub place : place_of f ≡ at
  pub unknown : read_number f ≡ 15 → (k : Kind) → letter_of k ≢ slice_index s at
  pub cut : read_number f ≡ 16 → (k : Kind) × (letter_of k ≡ slice_index s at) × (length s < at + 1 + body_of k)

-- what a read at a place answers: no more records at or past the end, else the record whose letter stands there,
-- with the place after it and its reference lent from the thirteenth byte after the letter on, or a refusal
abbrev pub Reads : Bor (List ℕ) → ℕ → Result (Option (Record × ℕ)) ReadFault → Type 0
Reads file at (Ok None) = length file.now ≤ at
Reads file at (Ok (Some (w, next))) = Stands file.now at (plain w) next × Lent file (at + 13) w
Reads file at (Err f) = Refuses file.now at f

-- what is answered is all that stands at the place
abbrev pub Alone : List ℕ → ℕ → Result (Option (Record × ℕ)) ReadFault → Type 0
Alone s at (Ok None) = (p : Plain) (next : ℕ) → Stands s at p next → ⊥
Alone s at (Ok (Some (w, next))) = (p : Plain) (n : ℕ) → Stands s at p n → (p ≡ plain w) × (n ≡ next)
Alone s at (Err f) = (p : Plain) (next : ℕ) → Stands s at p next → ⊥

-- what the next read of a reader answers, and the place at which it stands after
abbrev pub Nexts : Bor (List ℕ) → ℕ → ℕ → Result (Option Record) ReadFault → Type 0
Nexts file at after (Ok None) = (length file.now ≤ at) × (after ≡ at)
Nexts file at after (Ok (Some w)) = Stands file.now at (plain w) after × Lent file (at + 13) w
Nexts file at after (Err f) = Refuses file.now at f × (after ≡ at)
