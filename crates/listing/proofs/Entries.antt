-- The lines of a listing, one after another, and what is said at its end.
use Rattle.std.proofs.Common.{◌≡◌, ℕ, ◌+◌, ◌<◌, List, [], ◌∷◌, ◌++◌, length, get_or, take, sym, ap, ◌∙◌, append_assoc, append-nil, arith}
use Rattle.std.proofs.lemmas.List.{take_more, length-take-le}
use Rattle.files.specs.declared.placed.Placed.{Placed}
use Rattle.lines.specs.Lines.{entry_text}
use Rattle.listing.specs.Listing.{entries_text}

-- the line of one record
abbrev line : ℕ → Placed → List ℕ
line n w = entry_text n w.place w.«record» ++ (10 ∷ [])

entries_push : (n : ℕ) (ws : List Placed) (w : Placed) → entries_text n (ws ++ w ∷ []) ≡ entries_text n ws ++ line (n + length ws) w
entries_push n [] w = append-nil (line n w) ∙ ap (λ k. line k w) (omega arith)
entries_push n (x ∷ ws) w =
    ap (λ l. line n x ++ l) (entries_push (n + 1) ws w ∙ ap (λ k. entries_text (n + 1) ws ++ line k w) (omega arith)) ∙ sym (append_assoc (line n x) (entries_text (n + 1) ws) _)

-- a turn that wrote the line of one record more
pub entries_more : (ws : List Placed) (i : ℕ) (d : Placed) (before after : List ℕ) → i < length ws → before ≡ entries_text 1 (take i ws) → after ≡ before ++ line (i + 1) (get_or ws i d) → after ≡ entries_text 1 (take (i + 1) ws)
entries_more ws i d before after h e e' =
    let number : i + 1 ≡ 1 + length (take i ws) = omega (arith, length-take-le i ws (omega arith)) in
    e' ∙ (λ j. e j ++ line (number j) (get_or ws i d)) ∙ sym (ap (entries_text 1) (take_more ws i d h) ∙ entries_push 1 (take i ws) (get_or ws i d))
