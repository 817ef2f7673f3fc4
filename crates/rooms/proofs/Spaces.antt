-- How a move goes through a room book.
use Rattle.std.proofs.Common.{◌≡◌, ℕ, ◌-◌, ◌^◌, ◌<◌, ◌≤◌, min, ◌≢◌, List, length, set, Result, sym, ap, ◌∙◌, subst, arith}
use denote.Struct.Props.{props}
use Rattle.std.proofs.lemmas.List.{get_or-set_same, get_or-set_other}
use Rattle.book.specs.declared.book.Book.{Ghosts}
use Rattle.book.specs.Figures.{Figures, figures, sendable_at, open_at, after_take, after_put}
use Rattle.book.proofs.Figures.{same}
use Rattle.book.proofs.Layers.{length-layered, at_layered, set_layered}
use Rattle.book.specs.declared.fault.BookFault.{BookFault}
use Rattle.book.specs.Moves.{MoveKeeps}
use Rattle.book.proofs.Moves.{refused_all}
use Rattle.rooms.specs.declared.RoomBook.{RoomBook}
use Rattle.rooms.specs.Books.{Stands}
use Rattle.rooms.specs.Rooms.{Rooms, room_of, room_means, RoomRule, spend, regain}

pub length_room : (w : Rooms) → length (room_means w) ≡ length w.below
length_room w = length-layered _ w.below

-- what stands at an account of the book
pub record At (w : Rooms) (a : ℕ) : Type 0 where
  pub within : a < length (room_means w)
  pub sent : sendable_at (room_means w) a ≡ min (sendable_at w.below a) (room_of w a)
  pub left : open_at (room_means w) a ≡ min (open_at w.below a) (10 ^ 18 - room_of w a)

pub at : (w : Rooms) (a : ℕ) → a < length w.below → At w a
at w a h =
    let f = at_layered (λ k f. figures (min f.sendable (room_of w k)) (min f.«open» (10 ^ 18 - room_of w k))) w.below a h in
    record { within = rw length-layered h; sent = ap (λ f. f.sendable) f; left = ap (λ f. f.«open») f }

-- the meaning with other figures at one account
means_write : (w : Rooms) (a x y n : ℕ) → a < length w.rooms → room_means (record { rooms = set w.rooms a n; below = set w.below a (figures x y) }) ≡ set (room_means w) a (figures (min x n) (min y (10 ^ 18 - n)))
means_write w a x y n h =
    set_layered (λ k f. figures (min f.sendable (room_of w k)) (min f.«open» (10 ^ 18 - room_of w k))) _ w.below a (figures x y)
    (λ k f (ne : k ≢ a). ap (λ z. figures (min f.sendable z) (min f.«open» (10 ^ 18 - z))) (get_or-set_other w.rooms a k n 0 ne))
    ∙ ap (λ z. set (room_means w) a (figures (min x z) (min y (10 ^ 18 - z)))) (get_or-set_same w.rooms a n 0 h)

pub means_spend : (w : Rooms) (a s : ℕ) → At w a → a < length w.rooms → room_of w a ≤ 10 ^ 18 → s ≤ sendable_at (room_means w) a → room_means (spend w a s) ≡ after_take (room_means w) a s
means_spend w a s r h low le =
    means_write w a _ _ _ h ∙ ap (set (room_means w) a) (same (omega arith) (omega arith))

pub means_regain : (w : Rooms) (a s : ℕ) → At w a → a < length w.rooms → room_of w a ≤ 10 ^ 18 → s ≤ open_at (room_means w) a → room_means (regain w a s) ≡ after_put (room_means w) a s
means_regain w a s r h low le =
    means_write w a _ _ _ h ∙ ap (set (room_means w) a) (same (omega arith) (omega arith))

low_prop : (rooms : List ℕ) → IsProp (RoomRule rooms)
low_prop rooms = hlevel props

-- a book is the same where the book below is, and the rooms are
pub same_book : {B : Type 0} {G : Ghosts B} (b : B) (y : RoomBook B G) (p : RoomRule y.rooms) → b ≡ y.below → ◌≡◌ {A = RoomBook B G} (record { below = b; rooms = y.rooms; low = p }) y
same_book b y p e = λ i. record { below = e i; rooms = y.rooms; low = low_prop y.rooms p y.low i }

-- the same rooms over the same meaning
pub held : (rooms : List ℕ) {m n : List Figures} → m ≡ n → ◌≡◌ {A = Rooms} (record { rooms = rooms; below = m }) (record { rooms = rooms; below = n })
held rooms e = λ i. record { rooms = rooms; below = e i }

-- the rule on the rooms is in the type
pub stands : {B : Type 0} {G : Ghosts B} (b : RoomBook B G) → G.standing b.below → Stands G b
stands b below = record { below = below; own = b.low }

-- what a move keeps that leaves the very same book
pub kept : {B : Type 0} {means : B → List Figures} {stands : B → Type 0} (old new : B) (r : Result (Unit {0}) BookFault) → new ≡ old → MoveKeeps means stands old r new
kept {means} {stands} old new r e = record { count = ap (λ b. length (means b)) e; same = refused_all r e; standing = subst stands (sym e) }
