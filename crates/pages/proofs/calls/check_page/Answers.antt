use Rattle.std.proofs.Common.{◌/◌, Ok, Err, length, arith}
use Rattle.std.proofs.lemmas.Result.{err_from_is_err_and}
use Rattle.pages.specs.Pages.{Sized}
use Rattle.pages.proofs.Pages.{told, formed_next, refuses_record}
use Rattle.pages.proofs.calls.check_page.Goals as goal

pub returns-in_err-check_record : goal.returns-in_err-check_record
returns-in_err-check_record c =
    let page = c.args.page.now in
    let k = length page / 9 in
    let p = err_from_is_err_and c.from_residual.result c.from_residual.ensures.1 in
    let sized : Sized k page = record { some = omega arith; few = omega arith; bytes = grind arith } in
    let bad = told k c.loop-account.account page _ (Err _) c.as_chunks.ensures.front (omega arith) c.in_err-check_record.ensures.answer in
    record { answer = rw (p.1, p.2) (refuses_record k c.loop-account.account page _ sized (omega arith) c.loop-account.invariant bad) }

pub loop-account-preserved : goal.loop-account-preserved
loop-account-preserved c =
    let page = c.args.page.now in
    let good = told (length page / 9) c.loop-account.account page _ (Ok tt) c.as_chunks.ensures.front (omega arith) c.in_ok-check_record.ensures.answer in
    formed_next c.loop-account.account page c.loop-account.invariant (omega arith) (omega arith) (λ i. omega (arith, c.type_inv.page i)) good
