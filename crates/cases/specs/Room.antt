-- Worked figures of a room book: a room of 40 over a table book of one account that holds 100.
use Rattle.std.specs.Prelude.{◌≡◌, ℕ, [], ◌∷◌, Ok, Err, Result}
use Rattle.book.specs.declared.fault.BookFault.{BookFault}
use Rattle.book.specs.Faults.{Names}
use Rattle.book.specs.Figures.{sendable_at}
use Rattle.book.specs.Moves.{Taken, Put}
use Rattle.book.specs.Layers.{Leaves}
use Rattle.rows.specs.Rows.{table_means}
use Rattle.rooms.specs.Rooms.{Rooms, room_means, spend, regain}
use Rattle.cases.specs.Sure.{Only, above}

-- an answer, and what the book then holds
abbrev pub Outcome : Type 0
Outcome = Result (Unit {0}) BookFault × Rooms

-- a room of w over a figure of n below
abbrev pub holds : ℕ → ℕ → Rooms
holds w n = record { rooms = w ∷ []; below = table_means (n ∷ []) }

-- what a room book promises of a take from account 0, and of a put to it
abbrev pub Takes : Rooms → ℕ → Outcome → Type 0
Takes w s o = Taken (room_means w) 0 s o.0 (room_means o.1) × Leaves w (spend w 0 s) o.0 o.1

abbrev pub Puts : Rooms → ℕ → Outcome → Type 0
Puts w s o = Put (room_means w) 0 s o.0 (room_means o.1) × Leaves w (regain w 0 s) o.0 o.1

pub record RoomFigures : Type 0 where
  -- a take of 41 is refused 6, and nothing changes
  pub six : Names 6 0 41 (above 41)
  pub short : Only (Takes (holds 40 100) 41) (Err (above 41), holds 40 100)
  -- a take of 40 and a put of 10 leave 10 to send
  pub spent : Only (Takes (holds 40 100) 40) (Ok tt, holds 0 60)
  pub regained : Only (Puts (holds 0 60) 10) (Ok tt, holds 10 70)
  pub sendable : sendable_at (room_means (holds 10 70)) 0 ≡ 10
