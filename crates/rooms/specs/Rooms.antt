-- Sending rooms: what a room book holds for its accounts, what that means, and how takes and puts move it.
use Rattle.std.specs.Prelude.{ℕ, ◌+◌, ◌-◌, ◌^◌, ◌≤◌, min, List, slice_index, slice_set}
use Rattle.book.specs.Figures.{Figures, figures, after_take, after_put}
use Rattle.book.specs.Layers.{layered}

-- a room for each account, and the meaning of the book below
pub record Rooms : Type 0 where
  pub rooms : List ℕ
  pub below : List Figures

abbrev pub room_of : Rooms → ℕ → ℕ
room_of w a = slice_index w.rooms a

-- the smaller of what the book below can send and the room; the smaller of what may come in below and what is left of
-- 10^18 above the room
abbrev pub room_means : Rooms → List Figures
room_means w = layered (λ k f. figures (min f.sendable (room_of w k)) (min f.«open» (10 ^ 18 - room_of w k))) w.below

-- no room passes 10^18
abbrev pub RoomRule : List ℕ → Type 0
RoomRule rooms = (k : ℕ) → slice_index rooms k ≤ 10 ^ 18

-- a take lowers the room
abbrev pub spend : Rooms → ℕ → ℕ → Rooms
spend w a s = record { rooms = slice_set w.rooms a (room_of w a - s); below = after_take w.below a s }

-- a put raises it
abbrev pub regain : Rooms → ℕ → ℕ → Rooms
regain w a s = record { rooms = slice_set w.rooms a (room_of w a + s); below = after_put w.below a s }
