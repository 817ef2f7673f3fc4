-- What a write of one account's figures changes, and what it leaves.
use Rattle.std.proofs.Common.{◌≡◌, ℕ, ◌<◌, ◌≢◌, List, length, set, sym, ap, ◌∙◌, arith}
use Rattle.std.proofs.lemmas.List.{set-get_or, get_or-set_same, get_or-set_other}
use Rattle.book.specs.Figures.{Figures, figures, none, sendable_at, after_take, after_put}

pub same : {x x' y y' : ℕ} → x ≡ x' → y ≡ y' → figures x y ≡ figures x' y'
same p q = cc

pub take_none : (m : List Figures) (a s : ℕ) → s ≡ 0 → m ≡ after_take m a s
take_none m a s z = sym (set-get_or m a none) ∙ ap (set m a) (same (omega arith) (omega arith))

pub put_none : (m : List Figures) (a s : ℕ) → s ≡ 0 → m ≡ after_put m a s
put_none m a s z = sym (set-get_or m a none) ∙ ap (set m a) (same (omega arith) (omega arith))

pub sendable_same : (m : List Figures) (a x y : ℕ) → a < length m → sendable_at (set m a (figures x y)) a ≡ x
sendable_same m a x y h = ap (λ f. f.sendable) (get_or-set_same m a (figures x y) none h)

pub sendable_other : (m : List Figures) (a k x y : ℕ) → k ≢ a → sendable_at (set m a (figures x y)) k ≡ sendable_at m k
sendable_other m a k x y h = ap (λ f. f.sendable) (get_or-set_other m a k (figures x y) none h)
