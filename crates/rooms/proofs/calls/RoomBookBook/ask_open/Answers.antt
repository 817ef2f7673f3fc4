use Rattle.std.proofs.Common.{arith}
use Rattle.std.proofs.lemmas.Result.{err_from_is_err_and}
use Rattle.rooms.specs.Books.{rooms_of}
use Rattle.rooms.proofs.Spaces.{length_room, at}
use Rattle.rooms.proofs.calls.RoomBookBook.ask_open.Goals as goal

pub returns-in_err-own : goal.returns-in_err-own
returns-in_err-own g c =
    let p = err_from_is_err_and c.from_residual.result c.from_residual.ensures.1 in
    let bad = c.in_err-own.ensures.answer in
    record { answer = rw (p.1, p.2) (bad.0, rw (length_room (rooms_of g.B.Book c.args.self.now)) bad.1) }

pub returns : goal.returns
returns g c =
    let b = c.args.self.now in
    let own = c.in_ok-own.ensures.answer in
    let r = at (rooms_of g.B.Book b) c.args.account own.0 in
    let low = b.low c.args.account in
    record { answer = (r.within, omega arith) }
