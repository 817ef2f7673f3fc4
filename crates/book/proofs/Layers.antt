-- What a layer's figures are, place by place.
use Rattle.std.proofs.Common.{◌≡◌, ℕ, zero, suc, ◌<◌, ◌≢◌, List, [], ◌∷◌, length, get_or, set, refl, ap, ◌∙◌, arith}
use Rattle.book.specs.Figures.{Figures, none}
use Rattle.book.specs.Layers.{layered}

pub length-layered : (F : ℕ → Figures → Figures) (m : List Figures) → length (layered F m) ≡ length m
length-layered F [] = refl
length-layered F (f ∷ m) = ap suc (length-layered (λ k. F (suc k)) m)

pub at_layered : (F : ℕ → Figures → Figures) (m : List Figures) (a : ℕ) → a < length m → get_or (layered F m) a none ≡ F a (get_or m a none)
at_layered F [] a h = absurd (omega arith)
at_layered F (f ∷ m) zero h = refl
at_layered F (f ∷ m) (suc a) h = at_layered (λ k. F (suc k)) m a (omega arith)

same_layered : (F G : ℕ → Figures → Figures) (m : List Figures) → ((k : ℕ) (f : Figures) → G k f ≡ F k f) → layered G m ≡ layered F m
same_layered F G [] e = refl
same_layered F G (f ∷ m) e =
    ap (λ x. x ∷ layered (λ k. G (suc k)) m) (e 0 f)
    ∙ ap (λ r. F 0 f ∷ r) (same_layered (λ k. F (suc k)) (λ k. G (suc k)) m (λ k g. e (suc k) g))

-- a layer that differs from another at one account, over a book that does
pub set_layered : (F G : ℕ → Figures → Figures) (m : List Figures) (a : ℕ) (x : Figures) → ((k : ℕ) (f : Figures) → k ≢ a → G k f ≡ F k f) → layered G (set m a x) ≡ set (layered F m) a (G a x)
set_layered F G [] a x e = refl
set_layered F G (f ∷ m) zero x e =
    ap (λ r. G 0 x ∷ r) (same_layered (λ k. F (suc k)) (λ k. G (suc k)) m (λ k g. e (suc k) g (omega arith)))
set_layered F G (f ∷ m) (suc a) x e =
    ap (λ y. y ∷ layered (λ k. G (suc k)) (set m a x)) (e 0 f (omega arith))
    ∙ ap (λ r. F 0 f ∷ r) (set_layered (λ k. F (suc k)) (λ k. G (suc k)) m a x (λ k g ne. e (suc k) g (λ same. ne (omega arith))))
