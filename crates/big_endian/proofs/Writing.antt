-- A write for which there is room.
use Rattle.std.proofs.Common.{◌≡◌, ℕ, ◌+◌, ◌≤◌, List, length, Ok, Err, Result, refl, arith}
use Rattle.std.specs.Result.{IsOk}
use Rattle.big_endian.specs.declared.NoRoom.{NoRoom}
use Rattle.big_endian.specs.BigEndian.{bytes_of, over, Writes}
use Rattle.big_endian.proofs.Numbers.{length-bytes_of}

-- it is done
pub wrote : (bs old new : List ℕ) (at : ℕ) (r : Result (Unit {0}) NoRoom) → at + length bs ≤ length old → Writes bs at old new r → IsOk r × (new ≡ over bs at old)
wrote bs old new at (Ok u) room w = (refl, w.1)
wrote bs old new at (Err e) room w = absurd (omega (arith, w.0))

-- the same of a number in k bytes
pub wrote_number : (k n : ℕ) (old new : List ℕ) (at : ℕ) (r : Result (Unit {0}) NoRoom) → at + k ≤ length old → Writes (bytes_of k n) at old new r → IsOk r × (new ≡ over (bytes_of k n) at old)
wrote_number k n old new at r room w = wrote (bytes_of k n) old new at r (omega (arith, length-bytes_of k n)) w
