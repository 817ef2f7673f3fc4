-- The fields of a body and their bytes give each other back.
use Rattle.std.proofs.Common.{◌≡◌, ℕ, ◌+◌, ◌^◌, ◌<◌, ◌≤◌, List, [], ◌∷◌, ◌++◌, length, take, drop, sym, refl, ap, ◌∙◌, subst, append_assoc, arith, length-append, length-drop, length-take-le, take-add}
use Rattle.std.specs.Int.Digits.{AllBelowBase}
use Rattle.std.proofs.lemmas.Int.Digits.{number_lt}
use Rattle.std.proofs.ByRecursion.{All-take, All-drop}
use Rattle.std.proofs.lemmas.List.{take_at, drop_at, drop-drop}
use Rattle.big_endian.specs.BigEndian.{bytes_of, number_of}
use Rattle.big_endian.proofs.Numbers.{length-bytes_of, reads_back, writes_back}
use Rattle.layout.specs.Layout.{total}
use Rattle.layout.specs.Records.{Fit, packed}
use Rattle.records.specs.Parsing.{unpacked}

pub length-packed : (ws vs : List ℕ) → Fit ws vs → length (packed ws vs) ≡ total ws
length-packed [] [] h = refl
length-packed [] (v ∷ vs) h = absurd h
length-packed (w ∷ ws) [] h = absurd h
length-packed (w ∷ ws) (v ∷ vs) h = simp length-append (omega (arith, length-bytes_of w v, length-packed ws vs h.1))

module _ (s : List ℕ) (bytes : AllBelowBase 256 s) where
  under_part : (k at : ℕ) → AllBelowBase 256 (take k (drop at s))
  under_part k at = All-take (λ d. d < 256) k (drop at s) (All-drop (λ d. d < 256) at s bytes)

  long_part : (k at : ℕ) → at + k ≤ length s → length (take k (drop at s)) ≡ k
  long_part k at h = length-take-le k (drop at s) (omega (arith, length-drop at s))

  -- what is read out of fields fits them
  pub fit-unpacked : (ws : List ℕ) (at : ℕ) → at + total ws ≤ length s → Fit ws (unpacked ws at s)
  fit-unpacked [] at h = tt
  fit-unpacked (w ∷ ws) at h =
      let part = take w (drop at s) in
      (subst (λ (k : ℕ). number_of part < 256 ^ k) (long_part w at (omega arith)) (number_lt 256 part (under_part w at)), fit-unpacked ws (at + w) (omega arith))

  -- and has their bytes
  pub packed-unpacked : (ws : List ℕ) (at : ℕ) → at + total ws ≤ length s → packed ws (unpacked ws at s) ≡ take (total ws) (drop at s)
  packed-unpacked [] at h = refl
  packed-unpacked (w ∷ ws) at h =
      let part = take w (drop at s) in
      let first : bytes_of w (number_of part) ≡ part = ap (λ k. bytes_of k (number_of part)) (sym (long_part w at (omega arith))) ∙ writes_back part (under_part w at) in
      (λ i. first i ++ packed-unpacked ws (at + w) (omega arith) i) ∙ ap (λ l. part ++ take (total ws) l) (sym (drop-drop w at s)) ∙ sym (take-add w (total ws) (drop at s))

-- the fields' bytes, with others after them, have one reading
pub packed_same : (ws vs us s t : List ℕ) → Fit ws vs → Fit ws us → packed ws vs ++ s ≡ packed ws us ++ t → (vs ≡ us) × (s ≡ t)
packed_same [] [] [] s t hv hu e = (refl, e)
packed_same [] [] (u ∷ us) s t hv hu e = absurd hu
packed_same [] (v ∷ vs) us s t hv hu e = absurd hv
packed_same (w ∷ ws) [] us s t hv hu e = absurd hv
packed_same (w ∷ ws) (v ∷ vs) [] s t hv hu e = absurd hu
packed_same (w ∷ ws) (v ∷ vs) (u ∷ us) s t hv hu e =
    let joined : bytes_of w v ++ (packed ws vs ++ s) ≡ bytes_of w u ++ (packed ws us ++ t) = sym (append_assoc (bytes_of w v) (packed ws vs) s) ∙ e ∙ append_assoc (bytes_of w u) (packed ws us) t in
    let firsts : bytes_of w v ≡ bytes_of w u = sym (take_at (bytes_of w v) _ w (length-bytes_of w v)) ∙ ap (take w) joined ∙ take_at (bytes_of w u) _ w (length-bytes_of w u) in
    let rests : packed ws vs ++ s ≡ packed ws us ++ t = sym (drop_at (bytes_of w v) _ w (length-bytes_of w v)) ∙ ap (drop w) joined ∙ drop_at (bytes_of w u) _ w (length-bytes_of w u) in
    let same : v ≡ u = sym (reads_back w v hv.0) ∙ ap number_of firsts ∙ reads_back w u hu.0 in
    let more = packed_same ws vs us s t hv.1 hu.1 rests in
    ((λ i. same i ∷ more.0 i), more.1)
