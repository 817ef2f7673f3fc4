-- The room book over any book.
use Rattle.book.specs.declared.book.Book.{Ghosts}
use Rattle.rooms.specs.declared.RoomBook.{RoomBook}
use Rattle.rooms.specs.Rooms.{Rooms, RoomRule}

-- what the book holds
abbrev pub rooms_of : {B : Type 0} (G : Ghosts B) → RoomBook B G → Rooms
rooms_of G b = record { rooms = b.rooms; below = G.means b.below }

-- its standing rule: that of the book below, and its own
pub record Stands {B : Type 0} (G : Ghosts B) (b : RoomBook B G) : Type 0 where
  pub below : G.standing b.below
  pub own : RoomRule b.rooms
