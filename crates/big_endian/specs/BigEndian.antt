-- A number and its bytes, the greatest byte first: what a read answers and what a write leaves.
use Rattle.std.specs.Prelude.{◌≡◌, ℕ, zero, suc, ◌+◌, ◌/◌, ◌%◌, ◌^◌, ◌<◌, ◌≤◌, List, [], ◌∷◌, ◌++◌, length, take, drop, Some, None, Ok, Err, Option, Result}
use Rattle.std.specs.Int.Digits.{AllBelowBase, number_from_digits}
use Rattle.big_endian.specs.declared.NoRoom.{NoRoom}

-- the k bytes of n
unfoldable pub bytes_of : ℕ → ℕ → List ℕ
bytes_of zero n = []
bytes_of (suc k) n = (n / 256 ^ k % 256) ∷ bytes_of k n

-- the number that some bytes write
abbrev pub number_of : List ℕ → ℕ
number_of bs = number_from_digits 256 bs

-- what a read of k bytes of s from a place on answers; an answer is the number that value says
abbrev pub ReadsAs : {A : Type 0} → (A → ℕ) → ℕ → List ℕ → ℕ → Option A → Type 0
ReadsAs value k s at None = length s < at + k
ReadsAs value k s at (Some x) = (at + k ≤ length s) × (value x ≡ number_of (take k (drop at s)))

-- the same of an answer that is a number
abbrev pub Reads : ℕ → List ℕ → ℕ → Option ℕ → Type 0
Reads k s at r = ReadsAs (λ n. n) k s at r

-- s with the bytes bs in place of those from a place on
abbrev pub over : List ℕ → ℕ → List ℕ → List ℕ
over bs at s = take at s ++ (bs ++ drop (at + length bs) s)

-- what a write of bs into a space from a place on answers; the space held old, and now holds new
abbrev pub Writes : List ℕ → ℕ → List ℕ → List ℕ → Result (Unit {0}) NoRoom → Type 0
Writes bs at old new (Ok u) = (at + length bs ≤ length old) × (new ≡ over bs at old)
Writes bs at old new (Err e) = (length old < at + length bs) × (new ≡ old)

-- a number that fits its bytes is read back from them
abbrev pub ReadsBack : Type 0
ReadsBack = (k n : ℕ) → n < 256 ^ k → number_of (bytes_of k n) ≡ n

-- bytes are those of the number that they write
abbrev pub WritesBack : Type 0
WritesBack = (bs : List ℕ) → AllBelowBase 256 bs → bytes_of (length bs) (number_of bs) ≡ bs
