-- How a move goes through a credit book.
use Rattle.std.proofs.Common.{◌≡◌, ℕ, ◌+◌, ◌-◌, ◌<◌, ◌≤◌, min, ◌≢◌, List, length, get_or, set, sym, ap, ◌∙◌, subst, ⊎_elim, arith, length-set}
use Rattle.std.proofs.lemmas.List.{get_or-set_same, get_or-set_other}
use Rattle.std.proofs.lemmas.Bool.{cases_eq, cases_lt}
use Rattle.book.specs.Figures.{Figures, figures, sendable_at, open_at, after_take, after_put}
use Rattle.book.proofs.Figures.{same, sendable_same, sendable_other}
use Rattle.book.proofs.Layers.{length-layered, at_layered, set_layered}
use Rattle.credit.specs.Credits.{Credit, limit_of, loan_of, credit_means, CreditRule, lend, repay}

pub length_credit : (c : Credit) → length (credit_means c) ≡ length c.below
length_credit c = length-layered _ c.below

-- what stands at an account of the book
pub record At (c : Credit) (a : ℕ) : Type 0 where
  pub within : a < length (credit_means c)
  pub sent : sendable_at (credit_means c) a ≡ sendable_at c.below a + limit_of c a - loan_of c a
  pub left : open_at (credit_means c) a ≡ open_at c.below a + loan_of c a

pub at : (c : Credit) (a : ℕ) → a < length c.below → At c a
at c a h =
    let f = at_layered (λ k f. figures (f.sendable + limit_of c k - loan_of c k) (f.«open» + loan_of c k)) c.below a h in
    record { within = rw length-layered h; sent = ap (λ f. f.sendable) f; left = ap (λ f. f.«open») f }

-- the book with other figures at one account
abbrev write : Credit → ℕ → ℕ → ℕ → ℕ → Credit
write c a x y n = record { limits = c.limits; loans = set c.loans a n; below = set c.below a (figures x y) }

means_write : (c : Credit) (a x y n : ℕ) → a < length c.loans → credit_means (write c a x y n) ≡ set (credit_means c) a (figures (x + limit_of c a - n) (y + n))
means_write c a x y n h =
    set_layered (λ k f. figures (f.sendable + limit_of c k - loan_of c k) (f.«open» + loan_of c k)) _ c.below a (figures x y)
    (λ k f (ne : k ≢ a). ap (λ z. figures (f.sendable + limit_of c k - z) (f.«open» + z)) (get_or-set_other c.loans a k n 0 ne))
    ∙ ap (λ z. set (credit_means c) a (figures (x + limit_of c a - z) (y + z))) (get_or-set_same c.loans a n 0 h)

rule_write : (c : Credit) (a x y n : ℕ) → CreditRule c → a < length c.below → a < length c.loans → n ≤ limit_of c a → (0 < n → x ≡ 0) → CreditRule (write c a x y n)
rule_write c a x y n rule hb hl lent dry = record {
  lent = λ k. ⊎_elim
      (λ (e : k ≡ a). subst (λ j. get_or (set c.loans a n) j 0 ≤ limit_of c j) (sym e) (rw get_or-set_same lent))
      (λ (ne : k ≢ a). rw get_or-set_other (rule.lent k)) (cases_eq k a);
  dry = λ k. ⊎_elim
      (λ (e : k ≡ a). subst (λ j. 0 < get_or (set c.loans a n) j 0 → sendable_at (set c.below a (figures x y)) j ≡ 0) (sym e) (λ (h : 0 < get_or (set c.loans a n) a 0). sendable_same c.below a x y hb ∙ dry (rw get_or-set_same at h)))
      (λ (ne : k ≢ a). λ h. sendable_other c.below a k x y ne ∙ rule.dry k (rw get_or-set_other at h)) (cases_eq k a);
}

-- after a take a loan means that the book below has nothing left
rule_lend : (c : Credit) (a s : ℕ) → At c a → a < length c.below → a < length c.loans → s ≤ sendable_at (credit_means c) a → CreditRule c → CreditRule (lend c a s)
rule_lend c a s r hb hl le rule =
    let lent = rule.lent a in
    rule_write c a _ _ _ rule hb hl (omega arith)
    (λ h. ⊎_elim (λ (l : 0 < loan_of c a). omega (arith, rule.dry a l)) (λ (n : loan_of c a ≤ 0). omega arith) (cases_lt 0 (loan_of c a)))

-- after a put a loan means that nothing went to the book below
rule_repay : (c : Credit) (a s : ℕ) → a < length c.below → a < length c.loans → CreditRule c → CreditRule (repay c a s)
rule_repay c a s hb hl rule =
    let lent = rule.lent a in
    rule_write c a _ _ _ rule hb hl (omega arith) (λ h. omega (arith, rule.dry a (omega arith)))

-- the state d is what a move makes of c: `to`, which means m
pub record Moved (c d to : Credit) (m : List Figures) : Type 0 where
  pub split : d ≡ to
  pub means : credit_means d ≡ m
  pub count : length (credit_means d) ≡ length (credit_means c)
  pub rule : CreditRule c → CreditRule d

moved : (c d to : Credit) (a : ℕ) (f : Figures) → d ≡ to → credit_means to ≡ set (credit_means c) a f → (CreditRule c → CreditRule to) → Moved c d to (set (credit_means c) a f)
moved c d to a f split means rule =
    let means : credit_means d ≡ set (credit_means c) a f = ap credit_means split ∙ means in
    record { split = split; means = means; count = ap length means ∙ length-set (credit_means c) a f; rule = λ st. subst CreditRule (sym split) (rule st) }

state : (d to : Credit) → d.limits ≡ to.limits → d.loans ≡ to.loans → d.below ≡ to.below → d ≡ to
state d to limits loans below = λ i. record { limits = limits i; loans = loans i; below = below i }

-- p was taken below and the rest lent
pub lends : (c d : Credit) (a s p : ℕ) → At c a → a < length c.below → a < length c.loans → loan_of c a ≤ limit_of c a → s ≤ sendable_at (credit_means c) a → d.limits ≡ c.limits → d.loans ≡ set c.loans a (loan_of c a + (s - p)) → p ≡ min s (sendable_at c.below a) → d.below ≡ after_take c.below a p → Moved c d (lend c a s) (after_take (credit_means c) a s)
lends c d a s p r hb hl lent le limits loans e below =
    moved c d (lend c a s) a _
    (state d (lend c a s) limits (loans ∙ ap (λ n. set c.loans a (loan_of c a + n)) (omega arith)) (below ∙ ap (after_take c.below a) e))
    (means_write c a _ _ _ hl ∙ ap (set (credit_means c) a) (same (omega arith) (omega arith)))
    (rule_lend c a s r hb hl le)

-- p was repaid and the rest put below
pub repays : (c d : Credit) (a s p : ℕ) → At c a → a < length c.below → a < length c.loans → loan_of c a ≤ limit_of c a → s ≤ open_at (credit_means c) a → d.limits ≡ c.limits → d.loans ≡ set c.loans a (loan_of c a - p) → p ≡ min s (loan_of c a) → d.below ≡ after_put c.below a (s - p) → Moved c d (repay c a s) (after_put (credit_means c) a s)
repays c d a s p r hb hl lent le limits loans e below =
    moved c d (repay c a s) a _
    (state d (repay c a s) limits (loans ∙ ap (set c.loans a) (omega arith)) (below ∙ ap (after_put c.below a) (omega arith)))
    (means_write c a _ _ _ hl ∙ ap (set (credit_means c) a) (same (omega arith) (omega arith)))
    (rule_repay c a s hb hl)
