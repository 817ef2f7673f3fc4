-- What the lines of a credit book say of an account, and what a write to one of them leaves.
use Rattle.std.proofs.Common.{◌≡◌, ℕ, zero, suc, ◌<◌, ◌≤◌, List, [], ◌∷◌, map, length, get_or, set, ap, ◌∙◌, arith}
use Rattle.std.proofs.lemmas.List.{get_or-map, map-set, set-get_or}
use Rattle.credit.specs.declared.line.Line.{Line}

abbrev limits : List Line → List ℕ
limits = map (λ l. l.limit)

abbrev loans : List Line → List ℕ
loans = map (λ l. l.loan)

pub within : (lines : List Line) (k : ℕ) → get_or (loans lines) k 0 ≤ get_or (limits lines) k 0
within [] k = omega arith
within (l ∷ lines) zero = l.lent
within (l ∷ lines) (suc k) = within lines k

-- l is the line of account a
pub record LineAt (lines : List Line) (a : ℕ) (l : Line) : Type 0 where
  pub limit : l.limit ≡ get_or (limits lines) a 0
  pub loan : l.loan ≡ get_or (loans lines) a 0
  pub lent : get_or (loans lines) a 0 ≤ get_or (limits lines) a 0

pub line_at : (lines : List Line) (a : ℕ) (d : Line) → a < length lines → LineAt lines a (get_or lines a d)
line_at lines a d h =
    let limit = get_or-map (λ l. l.limit) lines a d 0 h in
    let loan = get_or-map (λ l. l.loan) lines a d 0 h in
    record { limit = cc; loan = cc; lent = within lines a }

pub limits_set : (lines : List Line) (a : ℕ) (l : Line) → l.limit ≡ get_or (limits lines) a 0 → limits (set lines a l) ≡ limits lines
limits_set lines a l e = map-set _ lines a l ∙ ap (set (limits lines) a) e ∙ set-get_or (limits lines) a 0

pub loans_set : (lines : List Line) (a n : ℕ) (l : Line) → l.loan ≡ n → loans (set lines a l) ≡ set (loans lines) a n
loans_set lines a n l e = map-set _ lines a l ∙ ap (set (loans lines) a) e
