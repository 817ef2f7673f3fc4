-- How many figures a page is read for: a page's law that it has few figures rests on it.
use Rattle.std.specs.Prelude.{◌≡◌, ℕ, zero, suc, List, length, drop, refl}
use Rattle.std.proofs.Common.{ap}
use Rattle.pages.specs.Pages.{figures_of}

pub length_figures : (k : ℕ) (page : List ℕ) → length (figures_of k page) ≡ k
length_figures zero page = refl
length_figures (suc k) page = ap suc (length_figures k (drop 9 page))
