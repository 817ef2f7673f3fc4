-- A file splits into records in one way, and in none where the reader stops.
use Rattle.std.proofs.Common.{◌≡◌, ℕ, ◌+◌, ◌<◌, List, [], ◌∷◌, ◌++◌, length, drop, sym, refl, ap, ◌∙◌, append_assoc, arith, length-append, length-drop}
use Rattle.std.specs.List.{flat_map, AllByRecursion}
use Rattle.std.proofs.lemmas.List.{drop_at, drop-drop}
use Rattle.layout.specs.Records.{Plain, encode, Sound}
use Rattle.records.specs.Reading.{Stands}
use Rattle.records.proofs.Splitting.{prefix}
use Rattle.files.specs.Files.{MakesUp}
use Rattle.files.specs.Laws.{SplitsOneWay}

same_lists : (ps qs : List Plain) → AllByRecursion Sound ps → AllByRecursion Sound qs → flat_map encode ps ≡ flat_map encode qs → ps ≡ qs
same_lists [] [] hp hq e = refl
same_lists [] (q ∷ qs) hp hq e = absurd (omega (arith, ap length e))
same_lists (p ∷ ps) [] hp hq e = absurd (omega (arith, ap length e))
same_lists (p ∷ ps) (q ∷ qs) hp hq e =
    let first = prefix p q (flat_map encode ps) (flat_map encode qs) hp.0 hq.0 e in
    λ i. first.0 i ∷ same_lists ps qs hp.1 hq.1 first.1 i

pub splits_one_way : SplitsOneWay
splits_one_way s ps qs hp hq = same_lists ps qs hp.sound hq.sound (hp.bytes ∙ sym hq.bytes)

-- records that make up what begins with the bytes of others have more after those
rest_of : (ps qs : List Plain) (s : List ℕ) → AllByRecursion Sound ps → AllByRecursion Sound qs → flat_map encode ps ++ s ≡ flat_map encode qs → (us : List Plain) × AllByRecursion Sound us × (s ≡ flat_map encode us)
rest_of [] qs s hp hq e = (qs, hq, e)
rest_of (p ∷ ps) [] s hp hq e = absurd (omega (arith, ap length e))
rest_of (p ∷ ps) (q ∷ qs) s hp hq e = rest_of ps qs s hp.1 hq.1 (prefix p q _ _ hp.0 hq.0 (sym (append_assoc (encode p) (flat_map encode ps) s) ∙ e)).1

-- what records make up from a place on begins with one that stands there
begins : (s : List ℕ) (at : ℕ) (us : List Plain) → at < length s → AllByRecursion Sound us → drop at s ≡ flat_map encode us → (p : Plain) × Stands s at p (at + length (encode p))
begins s at [] lt h e = absurd (omega (arith, ap length e, length-drop at s))
begins s at (p ∷ us) lt h e = (
  p,
  record {
    bytes = e ∙ ap (λ l. encode p ++ l) (sym (sym (drop-drop (length (encode p)) at s) ∙ ap (drop (length (encode p))) e ∙ drop_at (encode p) (flat_map encode us) _ refl));
    after = refl;
    within = omega (arith, ap length e, length-drop at s, length-append (encode p) (flat_map encode us));
    sound = h.0;
  },
)

-- where records lead up to a place at which none stands, no list of records makes up the whole
pub none_make_up : (s : List ℕ) (at : ℕ) (ps : List Plain) → at < length s → s ≡ flat_map encode ps ++ drop at s → AllByRecursion Sound ps → ((p : Plain) (next : ℕ) → Stands s at p next → ⊥) → (qs : List Plain) → MakesUp qs s → ⊥
none_make_up s at ps lt e hp none qs h =
    let rest = rest_of ps qs (drop at s) hp h.sound (sym e ∙ sym h.bytes) in
    let first = begins s at rest.0 lt rest.1 rest.2 in
    none first.0 _ first.1
