use Rattle.std.proofs.Common.{◌+◌, ◌<◌, length, get_or, set, sym, refl, ap, ◌∙◌, inl, inr, arith, length-set}
use Rattle.std.proofs.lemmas.Result.{err_from_is_err_and}
use Rattle.book.proofs.Moves.{unfit_in, fits_in, refuses_in}
use Rattle.rooms.specs.Rooms.{room_means}
use Rattle.rooms.specs.Books.{rooms_of}
use Rattle.rooms.proofs.Spaces.{length_room, at, means_regain, same_book, held, stands, kept}
use Rattle.rooms.proofs.calls.RoomBookBook.put.Goals as goal

pub returns-in_err-check_move-clause-answer : goal.returns-in_err-check_move-clause-answer
returns-in_err-check_move-clause-answer g c =
    let p = err_from_is_err_and c.from_residual.result c.from_residual.ensures.1 in
    let many = c.count.ensures.value ∙ sym (length_room (rooms_of g.B.Book c.args.self.now)) in
    rw (p.1, p.2) (inl (unfit_in many c.in_err-check_move.ensures.answer), refl)

pub returns-then-sum-room-clause-answer : goal.returns-then-sum-room-clause-answer
returns-then-sum-room-clause-answer g c =
    let w = rooms_of g.B.Book c.args.self.now in
    let fit = c.in_ok-check_move.ensures.answer in
    let r = at w c.args.account (omega arith) in
    let many = c.count.ensures.value ∙ sym (length_room w) in
    rw c.at.ensures.value (inr (record { number = refl; account = refl; sum = refl }, fits_in many fit, omega arith), refl)

pub returns-in_err-put : goal.returns-in_err-put
returns-in_err-put g c =
    let b = c.args.self.now in
    let w = rooms_of g.B.Book b in
    let fit = c.in_ok-check_move.ensures.answer in
    let r = at w c.args.account (omega arith) in
    let below = c.in_err-put.ensures in
    let p = err_from_is_err_and c.from_residual-in_err-put.result c.from_residual-in_err-put.ensures.1 in
    let left = held b.rooms below.answer.1 in
    record {
      answer = rw (p.1, p.2) (refuses_in (sym (length_room w)) (λ h. omega arith) below.answer.0, ap room_means left);
      keeps = kept _ _ _ (same_book c.put.new.self b _ below.keeps.same);
      rooms = rw p.1 left;
    }

pub returns : goal.returns
returns g c =
    let b = c.args.self.now in
    let w = rooms_of g.B.Book b in
    let a = c.args.account in
    let s = c.args.sum in
    let fit = c.in_ok-check_move.ensures.answer in
    let few = g.met.B.Book.few b.below in
    let below = c.in_ok-put.ensures in
    let r = at w a (omega arith) in
    let low = b.low a in
    let short : a < length b.rooms = omega arith in
    let many = c.count.ensures.value ∙ sym (length_room w) in
    let after = held (set b.rooms a (get_or b.rooms a 0 + s)) below.answer.2 in
    let means = ap room_means after ∙ means_regain w a s r short low (omega arith) in
    record {
      answer = (fits_in many fit, omega arith, means);
      keeps = record { count = ap length means ∙ length-set (room_means w) _ _; same = tt; standing = λ st. stands _ (below.keeps.standing st.below) };
      rooms = after;
    }
