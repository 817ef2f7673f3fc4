-- Which pages make a page book, and what a check of one answers.
use Rattle.std.specs.Prelude.{◌≡◌, ℕ, zero, suc, ◌+◌, ◌*◌, ◌^◌, ◌<◌, ◌≤◌, ◌⊎◌, List, [], ◌∷◌, ◌++◌, length, take, drop, Ok, Err, Result, ◌≢◌, slice_index}
use Rattle.big_endian.specs.BigEndian.{bytes_of, number_of}
use Rattle.rows.specs.Rows.{Low}
use Rattle.pages.specs.declared.fault.PageFault.{PageFault}
use Rattle.pages.specs.declared.fault.PageFault.TheVariants.{BadLength, BadLetter, LargeFigure}
use Rattle.pages.specs.Faults.{page_number}

-- the page that holds these figures: for each the letter P, then its eight bytes
abbrev pub page_of : List ℕ → List ℕ
page_of [] = []
page_of (n ∷ ns) = 80 ∷ (bytes_of 8 n ++ page_of ns)

-- the figures of the first k records of a page
abbrev pub figures_of : ℕ → List ℕ → List ℕ
figures_of zero page = []
figures_of (suc k) page = number_of (take 8 (drop 1 page)) ∷ figures_of k (drop 9 page)

-- the first byte of record a
abbrev pub letter_at : List ℕ → ℕ → ℕ
letter_at page a = slice_index page (9 * a)

-- the number of the eight bytes after it
abbrev pub figure_at : List ℕ → ℕ → ℕ
figure_at page a = number_of (take 8 (drop (9 * a + 1) page))

-- the page begins with k well formed records: at most 16, their bytes are those of their figures, and none is too large
abbrev pub Formed : ℕ → List ℕ → Type 0
Formed k page = (k ≤ 16) × (take (9 * k) page ≡ page_of (figures_of k page)) × Low (figures_of k page)

-- 9 bytes for each of k accounts, and 1 to 16 of them
pub record Sized (k : ℕ) (page : List ℕ) : Type 0 where
  pub some : 1 ≤ k
  pub few : k ≤ 16
  pub bytes : length page ≡ 9 * k

-- a page that makes a book of k accounts
pub record GoodPage (k : ℕ) (page : List ℕ) : Type 0 where
  pub sized : Sized k page
  pub formed : Formed k page

-- refusal 13: there is no number of accounts for which the page has its length
pub record RefusesLength (page : List ℕ) (f : PageFault) : Type 0 where
  pub number : page_number f ≡ 13
  pub names : f ≡ BadLength (length page)
  pub unfit : (n : ℕ) → Sized n page → ⊥

-- refusal 15 at record a of a page for n accounts: those before it are well formed, and it does not begin with P
pub record RefusesLetter (page : List ℕ) (f : PageFault) (n a : ℕ) : Type 0 where
  pub number : page_number f ≡ 15
  pub names : f ≡ BadLetter a (letter_at page a)
  pub sized : Sized n page
  pub here : a < n
  pub before : Formed a page
  pub other : letter_at page a ≡ 80 → ⊥

-- refusal 2 at record a: those before it are well formed, it begins with P, and its figure passes 10^16
pub record RefusesFigure (page : List ℕ) (f : PageFault) (n a : ℕ) : Type 0 where
  pub number : page_number f ≡ 2
  pub names : f ≡ LargeFigure a (figure_at page a)
  pub sized : Sized n page
  pub here : a < n
  pub before : Formed a page
  pub letter : letter_at page a ≡ 80
  pub large : 10 ^ 16 < figure_at page a

-- the refusals of a page in their order: 13 for its length, then record by record 15 before 2
abbrev pub PageRefuses : List ℕ → PageFault → Type 0
PageRefuses page f =
    RefusesLength page f
    ⊎ (((n : ℕ) × (a : ℕ) × RefusesLetter page f n a)
    ⊎ ((n : ℕ) × (a : ℕ) × RefusesFigure page f n a))

-- what a check of a page answers: its number of accounts, or the refusal
abbrev pub PageChecked : List ℕ → Result ℕ PageFault → Type 0
PageChecked page (Ok k) = GoodPage k page
PageChecked page (Err f) = PageRefuses page f

-- what a check of the record of account a answers, which holds this letter and figure: 15 before 2
abbrev pub RecordChecked : ℕ → ℕ → ℕ → Result (Unit {0}) PageFault → Type 0
RecordChecked letter figure a (Ok u) = (letter ≡ 80) × (figure ≤ 10 ^ 16)
RecordChecked letter figure a (Err f) =
    ((f ≡ BadLetter a letter) × (letter ≢ 80))
    ⊎ ((f ≡ LargeFigure a figure) × (letter ≡ 80) × (10 ^ 16 < figure))
