-- A page: what it holds, and what a write leaves.
use Rattle.std.specs.Prelude.{◌≡◌, ℕ, ◌+◌, ◌*◌, List, vec_items}
use Rattle.big_endian.specs.BigEndian.{bytes_of, over}
use Rattle.pages.specs.declared.Page.{Page}
use Rattle.pages.specs.Pages.{figures_of, Formed, GoodPage}

abbrev pub bytes_in : Page → List ℕ
bytes_in p = vec_items p.bytes

abbrev pub figures_in : Page → List ℕ
figures_in p = figures_of p.accounts (bytes_in p)

-- the page that is made of some bytes: the bytes as they were, and no accounts where they are bad
pub record Keeps (page : List ℕ) (b : Page) : Type 0 where
  pub bytes : bytes_in b ≡ page
  pub good : (k : ℕ) → GoodPage k page → b.accounts ≡ k
  pub bad : ((k : ℕ) → GoodPage k page → ⊥) → b.accounts ≡ 0

-- the write of a figure to account a: its eight bytes are new, every other byte is as it was, letters included, and
-- the page stays well formed
pub record Written (before : Page) (a figure : ℕ) (after : Page) : Type 0 where
  pub accounts : after.accounts ≡ before.accounts
  pub bytes : bytes_in after ≡ over (bytes_of 8 figure) (9 * a + 1) (bytes_in before)
  pub formed : Formed after.accounts (bytes_in after)
