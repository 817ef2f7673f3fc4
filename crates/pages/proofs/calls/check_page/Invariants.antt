use Rattle.pages.specs.Pages.{Formed}
use Rattle.pages.proofs.calls.check_page.Given as goal

abbrev pub invariant-loop-account : goal.invariant-loop-account
invariant-loop-account l = Formed l.account l.page
