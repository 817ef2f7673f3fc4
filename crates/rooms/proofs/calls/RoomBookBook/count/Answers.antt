use Rattle.std.proofs.Common.{length, sym, ap, ◌∙◌}
use Rattle.rooms.specs.Books.{rooms_of}
use Rattle.rooms.proofs.Spaces.{length_room}
use Rattle.rooms.proofs.calls.RoomBookBook.count.Goals as goal

pub returns : goal.returns
returns g c = record {
  value = c.count.ensures.value ∙ ap (λ b. length (g.B.Book.means b)) c.below.ensures.value ∙ sym (length_room (rooms_of g.B.Book c.args.self.now));
}
