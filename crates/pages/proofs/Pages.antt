-- What the records of a page hold, and what a write to one of them leaves.
use Rattle.std.specs.Prelude.{◌≡◌, ℕ, zero, suc, ◌+◌, ◌*◌, ◌^◌, ◌<◌, ◌≤◌, List, [], ◌∷◌, ◌++◌, length, take, drop, Some, None, Option, Ok, Err, vec_items, vec_len, Result, slice_index, slice_get, slice_set, refl}
use borrow.Author.Count.{below_more}
use Rattle.std.proofs.Common.{get_or, sym, ap, subst, ◌∙◌, append_assoc, ⊎_elim, inl, inr, arith, add_assoc, length-set, length-append, length-drop, length-take, take-append-drop, length-take-le, take-add, take_at, drop_at, drop-drop}
use Rattle.std.proofs.Math.Seq.{take-append-add, drop-append-add}
use Rattle.std.specs.Int.Digits.{AllBelowBase}
use Rattle.std.proofs.ByRecursion.{All-from_get_or}
use Rattle.std.proofs.lemmas.List.{drop-take, take-take, get_or-take, get_or-drop, get_or_past, get_or-append-add, with_items_is}
use Rattle.std.proofs.lemmas.Bool.{cases_lt}
use Rattle.std.proofs.lemmas.Option.{slice_get_past, slice_get-get_or}
use Rattle.std.specs.Simd.{first_chunks}
use Rattle.std.specs.Vec.{with_items}
use Rattle.std.specs.Result.{IsOk, result_unwrap_or}
use Rattle.big_endian.specs.BigEndian.{bytes_of, number_of, over, Reads, Writes}
use Rattle.big_endian.specs.declared.NoRoom.{NoRoom}
use Rattle.big_endian.proofs.Writing.{wrote, wrote_number}
use Rattle.big_endian.proofs.Numbers.{length-bytes_of, reads_back, writes_back}
use Rattle.rows.specs.Rows.{Low}
use Rattle.rows.proofs.Rows.{low_set}
use Rattle.pages.specs.declared.fault.PageFault.{PageFault}
use Rattle.pages.specs.declared.Page.{Page}
use Rattle.pages.specs.Faults.{page_number}
use Rattle.pages.specs.Pages.{page_of, figures_of, letter_at, figure_at, Formed, Sized, GoodPage, RecordChecked, PageChecked, PageRefuses, RefusesLength, RefusesLetter, RefusesFigure}
use Rattle.pages.specs.Lengths.{length_figures}
use Rattle.pages.specs.Books.{bytes_in, figures_in}

pub length_page : (ns : List ℕ) → length (page_of ns) ≡ 9 * length ns
length_page [] = refl
length_page (n ∷ ns) = omega (arith, length-append (bytes_of 8 n) (page_of ns), length-bytes_of 8 n, length_page ns)

-- the figure of a record stands at its place
pub figures_at : (k a : ℕ) (p : List ℕ) → a < k → slice_index (figures_of k p) a ≡ figure_at p a
figures_at zero a p h = absurd (omega arith)
figures_at (suc k) zero p h = refl
figures_at (suc k) (suc a) p h =
    let e : 9 + (9 * a + 1) ≡ 9 * suc a + 1 = omega arith in
    figures_at k a (drop 9 p) (omega arith) ∙ ap (λ d. number_of (take 8 d)) (drop-drop (9 * a + 1) 9 p ∙ ap (λ n. drop n p) e)

-- the record of account a stands at its place
record_at : (k a : ℕ) (p : List ℕ) → a < k → get_or (first_chunks 9 k p) a [] ≡ take 9 (drop (9 * a) p)
record_at zero a p h = absurd (omega arith)
record_at (suc k) zero p h = refl
record_at (suc k) (suc a) p h =
    let e : 9 + 9 * a ≡ 9 * suc a = omega arith in
    record_at k a (drop 9 p) (omega arith) ∙ ap (take 9) (drop-drop (9 * a) 9 p ∙ ap (λ n. drop n p) e)

-- what a check of the record tells, it tells of the page
pub told : (k a : ℕ) (p : List ℕ) (rs : List (List ℕ)) (r : Result (Unit {0}) PageFault) → rs ≡ first_chunks 9 k p → a < k → RecordChecked (letter_at (get_or rs a []) 0) (figure_at (get_or rs a []) 0) a r → RecordChecked (letter_at p a) (figure_at p a) a r
told k a p rs r e h w =
    let own = take 9 (drop (9 * a) p) in
    let is = ap (λ cs. get_or cs a []) e ∙ record_at k a p h in
    let letter : letter_at own 0 ≡ letter_at p a = get_or-take 9 (drop (9 * a) p) 0 0 (omega arith) ∙ get_or-drop (9 * a) p 0 0 ∙ ap (slice_index p) (omega arith) in
    let figure : figure_at own 0 ≡ figure_at p a = ap (λ t. number_of (take 8 t)) (drop-take 1 8 (drop (9 * a) p)) ∙ ap number_of (take-take 8 8 (drop 1 (drop (9 * a) p)) (omega arith)) ∙ ap (λ t. number_of (take 8 t)) (drop-drop 1 (9 * a) p) in
    let here = subst (λ c. RecordChecked (letter_at c 0) (figure_at c 0) a r) is w in
    subst (λ l. RecordChecked l (figure_at p a) a r) letter (subst (λ n. RecordChecked (letter_at own 0) n a r) figure here)

-- a page gives its figures back
pub figures_page : (ns rest : List ℕ) → Low ns → figures_of (length ns) (page_of ns ++ rest) ≡ ns
figures_page [] rest low = refl
figures_page (n ∷ ns) rest low =
    let split = append_assoc (bytes_of 8 n) (page_of ns) rest in
    let first = ap (take 8) split ∙ take_at (bytes_of 8 n) (page_of ns ++ rest) 8 (length-bytes_of 8 n) in
    let after = ap (drop 8) split ∙ drop_at (bytes_of 8 n) (page_of ns ++ rest) 8 (length-bytes_of 8 n) in
    let back = ap number_of first ∙ reads_back 8 n (omega (arith, low 0)) in
    let more = ap (figures_of (length ns)) after ∙ figures_page ns rest (λ j. low (suc j)) in
    λ i. back i ∷ more i

-- a write past some bytes leaves them
over_past : (bs pre s : List ℕ) (at : ℕ) → over bs (length pre + at) (pre ++ s) ≡ pre ++ over bs at s
over_past bs pre s at =
    let after = ap (λ m. drop m (pre ++ s)) (add_assoc (length pre) at (length bs)) ∙ drop-append-add pre s (at + length bs) in
    (λ i. take-append-add pre s at i ++ (bs ++ after i)) ∙ append_assoc pre (take at s) (bs ++ drop (at + length bs) s)

-- a figure written over its eight bytes
over_page : (ns rest : List ℕ) (a x : ℕ) → a < length ns → over (bytes_of 8 x) (9 * a + 1) (page_of ns ++ rest) ≡ page_of (slice_set ns a x) ++ rest
over_page [] rest a x h = absurd (omega arith)
over_page (n ∷ ns) rest zero x h =
    let after = ap (λ m. drop (1 + m) (page_of (n ∷ ns) ++ rest)) (length-bytes_of 8 x) ∙ ap (drop 8) (append_assoc (bytes_of 8 n) (page_of ns) rest) ∙ drop_at (bytes_of 8 n) (page_of ns ++ rest) 8 (length-bytes_of 8 n) in
    ap (λ t. 80 ∷ (bytes_of 8 x ++ t)) after ∙ ap (λ t. 80 ∷ t) (sym (append_assoc (bytes_of 8 x) (page_of ns) rest))
over_page (n ∷ ns) rest (suc a) x h =
    let pre : List ℕ = 80 ∷ bytes_of 8 n in
    let e : 9 * suc a + 1 ≡ length pre + (9 * a + 1) = omega (arith, length-bytes_of 8 n) in
    (λ i. over (bytes_of 8 x) (e i) (append_assoc pre (page_of ns) rest i))
    ∙ over_past (bytes_of 8 x) pre (page_of ns ++ rest) (9 * a + 1)
    ∙ ap (λ t. pre ++ t) (over_page ns rest a x (omega arith))
    ∙ sym (append_assoc pre (page_of (slice_set ns a x)) rest)

-- a well formed page is its figures' page and what follows
whole : (k : ℕ) (p : List ℕ) → Formed k p → p ≡ page_of (figures_of k p) ++ drop (9 * k) p
whole k p f = sym (take-append-drop (9 * k) p) ∙ ap (λ t. t ++ drop (9 * k) p) f.1

-- it has all the bytes of its records
pub long : (k : ℕ) (p : List ℕ) → Formed k p → 9 * k ≤ length p
long k p f = omega (arith, ap length f.1, length-take (9 * k) p, length_page (figures_of k p), length_figures k p)

-- what a read of a figure answers
pub figure_read : (b : Page) (a : ℕ) (s : List ℕ) (r : Option ℕ) → a < b.accounts → s ≡ bytes_in b → Reads 8 s (9 * a + 1) r → r ≡ slice_get (figures_in b) a
figure_read b a s None h e w = absurd (omega (arith, w, long b.accounts (bytes_in b) b.formed, ap length e))
figure_read b a s (Some n) h e w =
    ap Some (w.1 ∙ ap (λ t. figure_at t a) e ∙ sym (figures_at b.accounts a (bytes_in b) h))
    ∙ sym (slice_get-get_or (figures_in b) a 0 (omega (arith, length_figures b.accounts (bytes_in b))))

-- each of its records begins with the letter
letters_page : (ns rest : List ℕ) (a : ℕ) → a < length ns → letter_at (page_of ns ++ rest) a ≡ 80
letters_page [] rest a h = absurd (omega arith)
letters_page (n ∷ ns) rest zero h = refl
letters_page (n ∷ ns) rest (suc a) h =
    let pre : List ℕ = 80 ∷ bytes_of 8 n in
    let e : 9 * suc a ≡ length pre + 9 * a = omega (arith, length-bytes_of 8 n) in
    (λ i. slice_index (append_assoc pre (page_of ns) rest i) (e i)) ∙ get_or-append-add pre (page_of ns ++ rest) (9 * a) 0 ∙ letters_page ns rest a (omega arith)

letter_stands : (k a : ℕ) (p : List ℕ) → Formed k p → a < k → letter_at p a ≡ 80
letter_stands k a p f h = ap (λ s. letter_at s a) (whole k p f) ∙ letters_page (figures_of k p) (drop (9 * k) p) a (omega (arith, length_figures k p))

-- the page after a write of the figure x
module _ (k a x : ℕ) (p q : List ℕ) (f : Formed k p) (h : a < k) (le : x ≤ 10 ^ 16) (e : q ≡ over (bytes_of 8 x) (9 * a + 1) p) where
  held : q ≡ page_of (slice_set (figures_of k p) a x) ++ drop (9 * k) p
  held = e ∙ ap (over (bytes_of 8 x) (9 * a + 1)) (whole k p f) ∙ over_page (figures_of k p) (drop (9 * k) p) a x (omega (arith, length_figures k p))

  many : length (slice_set (figures_of k p) a x) ≡ k
  many = length-set (figures_of k p) a x ∙ length_figures k p

  low : Low (slice_set (figures_of k p) a x)
  low = low_set (figures_of k p) a x f.2 (omega (arith, length_figures k p)) le

  figures_write : figures_of k q ≡ slice_set (figures_of k p) a x
  figures_write = (λ i. figures_of (sym many i) (held i)) ∙ figures_page (slice_set (figures_of k p) a x) (drop (9 * k) p) low

  formed_write : Formed k q
  formed_write = (
    f.0,
    ap (take (9 * k)) held ∙ take_at (page_of (slice_set (figures_of k p) a x)) (drop (9 * k) p) (9 * k) (omega (arith, length_page (slice_set (figures_of k p) a x), many)) ∙ ap page_of (sym figures_write),
    subst Low (sym figures_write) low,
  )

-- bytes are those of their records, where each begins with its letter
bytes_by : (k : ℕ) (p : List ℕ) → 9 * k ≤ length p → ((i : ℕ) → slice_index p i < 256) → ((j : ℕ) → j < k → letter_at p j ≡ 80) → take (9 * k) p ≡ page_of (figures_of k p)
bytes_by zero p h small letters = refl
bytes_by (suc k) [] h small letters = absurd (omega arith)
bytes_by (suc k) (x ∷ p) h small letters =
    let e : 9 * suc k ≡ 9 + 9 * k = omega arith in
    let n : length (take 8 p) ≡ 8 = length-take-le 8 p (omega arith) in
    let under : AllBelowBase 256 (take 8 p) = All-from_get_or (λ d. d < 256) (take 8 p) 0 (λ i l. rw (get_or-take 8 p i 0 (omega arith)) (small (suc i))) in
    let figure : take 8 p ≡ bytes_of 8 (number_of (take 8 p)) = sym (ap (λ m. bytes_of m (number_of (take 8 p))) (sym n) ∙ writes_back (take 8 p) under) in
    let at : (j : ℕ) → suc (8 + 9 * j) ≡ 9 * suc j = λ j. omega arith in
    let more = bytes_by k (drop 8 p) (omega (arith, length-drop 8 p)) (λ i. rw get_or-drop (small (suc (8 + i)))) (λ j l. get_or-drop 8 p (9 * j) 0 ∙ ap (λ m. slice_index (x ∷ p) m) (at j) ∙ letters (suc j) (omega arith)) in
    ap (λ m. take m (x ∷ p)) e ∙ take-add 9 (9 * k) (x ∷ p) ∙ (λ i. letters 0 (omega arith) i ∷ (figure i ++ more i))

formed_by : (k : ℕ) (p : List ℕ) → k ≤ 16 → 9 * k ≤ length p → ((i : ℕ) → slice_index p i < 256) → ((j : ℕ) → j < k → (letter_at p j ≡ 80) × (figure_at p j ≤ 10 ^ 16)) → Formed k p
formed_by k p few h small each = (
  few,
  bytes_by k p h small (λ j l. (each j l).0),
  λ a. ⊎_elim (λ (l : a < k). omega (arith, figures_at k a p l, (each a l).1)) (λ (l : k ≤ a). omega (arith, get_or_past (figures_of k p) a 0 (omega (arith, length_figures k p)))) (cases_lt a k),
)

-- one more record that is well formed
pub formed_next : (a : ℕ) (p : List ℕ) → Formed a p → a < 16 → 9 * a + 9 ≤ length p → ((i : ℕ) → slice_index p i < 256) → RecordChecked (letter_at p a) (figure_at p a) a (Ok tt) → Formed (a + 1) p
formed_next a p f few h small good =
    formed_by (a + 1) p (omega arith) (omega arith) small
    (below_more (λ j. (letter_at p j ≡ 80) × (figure_at p j ≤ 10 ^ 16)) a (λ j l. (letter_stands a j p f l, omega (arith, figures_at a j p l, f.2 j))) good)

-- the first record that is not well formed refuses the page
pub refuses_record : (n a : ℕ) (p : List ℕ) (f : PageFault) → Sized n p → a < n → Formed a p → RecordChecked (letter_at p a) (figure_at p a) a (Err f) → PageRefuses p f
refuses_record n a p f sized here before bad =
    inr (⊎_elim
    (λ r. inl (n, a, record { number = ap page_number r.0; names = r.0; sized = sized; here = here; before = before; other = r.1 }))
    (λ r. inr (n, a, record { number = ap page_number r.0; names = r.0; sized = sized; here = here; before = before; letter = r.1; large = r.2 })) bad)

-- no page is both refused and good
not_both : (p : List ℕ) (f : PageFault) (k : ℕ) → PageRefuses p f → GoodPage k p → ⊥
not_both p f k bad g =
    ⊎_elim
    (λ (r : RefusesLength p f). r.unfit k g.sized)
    (⊎_elim
    (λ (r : (n : ℕ) × (a : ℕ) × RefusesLetter p f n a). r.2.other (letter_stands k r.1 p g.formed (omega (arith, r.2.here, r.2.sized.bytes, g.sized.bytes))))
    (λ (r : (n : ℕ) × (a : ℕ) × RefusesFigure p f n a).
    let h : r.1 < k = omega (arith, r.2.here, r.2.sized.bytes, g.sized.bytes) in
    omega (arith, r.2.large, g.formed.2 r.1, figures_at k r.1 p h))) bad

-- the number of accounts that a book takes from the check of its page
pub kept : (p : List ℕ) (r : Result ℕ PageFault) → PageChecked p r → ((k : ℕ) → GoodPage k p → result_unwrap_or r 0 ≡ k) × (((k : ℕ) → GoodPage k p → ⊥) → result_unwrap_or r 0 ≡ 0) × Formed (result_unwrap_or r 0) p
kept p (Ok k) g = ((λ j o. omega (arith, o.sized.bytes, g.sized.bytes)), (λ no. absurd (no k g)), g.formed)
kept p (Err f) e = ((λ j g. absurd (not_both p f j e g)), (λ no. refl), (omega arith, refl, λ j. omega arith))

-- there is room for the figure of an account
pub has_room : (b : Page) (a x : ℕ) (s ws : List ℕ) (r : Result (Unit {0}) NoRoom) → a < b.accounts → s ≡ bytes_in b → Writes (bytes_of 8 x) (9 * a + 1) s ws r → IsOk r
has_room b a x s ws r h e w = (wrote_number 8 x s ws (9 * a + 1) r (omega (arith, long b.accounts (bytes_in b) b.formed, ap length e)) w).0

-- what the write of a figure leaves
pub write_in : (b : Page) (a x : ℕ) (s ws : List ℕ) (r : Result (Unit {0}) NoRoom) → a < b.accounts → x ≤ 10 ^ 16 → s ≡ bytes_in b → length ws ≡ vec_len b.bytes → Writes (bytes_of 8 x) (9 * a + 1) s ws r →
    (vec_items (with_items b.bytes ws) ≡ over (bytes_of 8 x) (9 * a + 1) (bytes_in b))
    × Formed b.accounts (vec_items (with_items b.bytes ws))
    × (figures_of b.accounts (vec_items (with_items b.bytes ws)) ≡ slice_set (figures_in b) a x)
write_in b a x s ws r h le e l w =
    let k = b.accounts in
    let p = bytes_in b in
    let q = vec_items (with_items b.bytes ws) in
    let fits : 9 * a + 1 + length (bytes_of 8 x) ≤ length s = omega (arith, long k p b.formed, length-bytes_of 8 x, ap length e) in
    let bytes = with_items_is b.bytes ws l ∙ (wrote (bytes_of 8 x) s ws (9 * a + 1) r fits w).1 ∙ ap (over (bytes_of 8 x) (9 * a + 1)) e in
    (bytes, formed_write k a x p q b.formed h le bytes, figures_write k a x p q b.formed h le bytes)

-- what makes a page a row of figures
pub ruleset as_a_row = (length_figures, slice_get_past, figure_read, write_in)
