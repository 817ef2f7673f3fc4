-- A space as it is filled from its start, field by field.
use Rattle.std.proofs.Common.{◌≡◌, ℕ, ◌+◌, ◌<◌, ◌≤◌, List, [], ◌∷◌, ◌++◌, length, take, drop, sym, refl, ap, ◌∙◌, append_assoc, append-nil, subst, ◌⊎◌, ⊎_elim, arith, length-append}
use Rattle.std.proofs.lemmas.List.{drop-drop, take_at, drop_at}
use Rattle.big_endian.specs.BigEndian.{bytes_of, over}
use Rattle.big_endian.proofs.Numbers.{length-bytes_of, bytes1}
use Rattle.layout.specs.declared.kind.Kind.{Kind}
use Rattle.layout.specs.declared.record.Record.{Record}
use Rattle.layout.specs.Layout.{letter_of, widths, total}
use Rattle.layout.specs.Records.{Plain, plain, packed, encode, size_of}

-- a space held old; now it begins with some fields, and the rest is as it was
pub record Filled (old ws vs s : List ℕ) : Type 0 where
  pub paired : length ws ≡ length vs
  pub long : length (packed ws vs) ≡ total ws
  pub holds : s ≡ packed ws vs ++ drop (total ws) old

pub unfilled : (old : List ℕ) → Filled old [] [] old
unfilled old = record { paired = refl; long = refl; holds = refl }

packed_push : (ws vs : List ℕ) (w v : ℕ) → length ws ≡ length vs → packed (ws ++ w ∷ []) (vs ++ v ∷ []) ≡ packed ws vs ++ bytes_of w v
packed_push [] [] w v h = append-nil (bytes_of w v)
packed_push [] (y ∷ vs) w v h = absurd (omega arith)
packed_push (x ∷ ws) [] w v h = absurd (omega arith)
packed_push (x ∷ ws) (y ∷ vs) w v h = ap (λ l. bytes_of x y ++ l) (packed_push ws vs w v (omega arith)) ∙ sym (append_assoc (bytes_of x y) (packed ws vs) (bytes_of w v))

total_push : (ws : List ℕ) (w : ℕ) → total (ws ++ w ∷ []) ≡ total ws + w
total_push [] w = omega arith
total_push (x ∷ ws) w = omega (arith, total_push ws w)

module _ {old ws vs s : List ℕ} (f : Filled old ws vs s) where
  -- a field more
  pub more : (w v : ℕ) {t : List ℕ} → total ws + w ≤ length old → t ≡ over (bytes_of w v) (total ws) s → Filled old (ws ++ w ∷ []) (vs ++ v ∷ []) t
  more w v {t} h e =
      let n = total ws in
      let front = packed ws vs in
      let k = length (bytes_of w v) in
      let push = packed_push ws vs w v f.paired in
      let end : n + k ≡ total (ws ++ w ∷ []) = omega (arith, total_push ws w, length-bytes_of w v) in
      let taken : take n s ≡ front = ap (take n) f.holds ∙ take_at front (drop n old) n f.long in
      let left : drop (n + k) s ≡ drop (total (ws ++ w ∷ [])) old = sym (drop-drop k n s) ∙ ap (drop k) (ap (drop n) f.holds ∙ drop_at front (drop n old) n f.long) ∙ drop-drop k n old ∙ ap (λ m. drop m old) end in
      record {
        paired = simp length-append (omega (arith, f.paired));
        long = ap length push ∙ simp length-append (omega (arith, f.long, total_push ws w, length-bytes_of w v));
        holds = e ∙ (λ i. taken i ++ (bytes_of w v ++ left i)) ∙ sym (append_assoc front (bytes_of w v) _) ∙ ap (λ l. l ++ drop (total (ws ++ w ∷ [])) old) (sym push);
      }

-- a space that begins with a letter and the fields of its kind holds the record
pub done : (w : Record) {p : Plain} {k : Kind} {letter : ℕ} {old s : List ℕ} → plain w ≡ p → k ≡ (plain w).kind → letter ≡ letter_of k → letter < 256 → Filled old (1 ∷ widths p.kind) (letter ∷ p.values) s → s ≡ encode (plain w) ++ drop (size_of (plain w)) old
done w {p} {k} {letter} {old} says is e small f =
    f.holds ∙ ap (λ l. (l ++ packed (widths p.kind) p.values) ++ drop (size_of p) old) (bytes1 letter small ∙ ap (λ n. n ∷ []) (e ∙ ap letter_of (is ∙ ap (λ q. q.kind) says))) ∙ (λ i. encode (sym says i) ++ drop (size_of (sym says i)) old)

-- so does one of either of two kinds with the same fields
pub done_either : (w : Record) (k l : Kind) {letter : ℕ} {vs old s : List ℕ} {is : Kind} → widths k ≡ widths l → is ≡ (plain w).kind → letter ≡ letter_of is → letter < 256 → Filled old (1 ∷ widths k) (letter ∷ vs) s → (plain w ≡ record { kind = k; values = vs }) ⊎ (plain w ≡ record { kind = l; values = vs }) → s ≡ encode (plain w) ++ drop (size_of (plain w)) old
done_either w k l {letter} {vs} {old} {s} same is e small f says =
    ⊎_elim (λ first. done w first is e small f) (λ second. done w second is e small (subst (λ (ws : List ℕ). Filled old (1 ∷ ws) (letter ∷ vs) s) same f)) says
