-- What every book's answers to a move have in common.
use Rattle.std.proofs.Common.{◌≡◌, ℕ, ◌<◌, ◌≤◌, IfErr, Ok, Err, Result, subst, inl, inr, ⊎_elim, arith}
use Rattle.book.specs.declared.fault.BookFault.{BookFault}
use Rattle.book.specs.Moves.{Fits, Unfit, Refuses}

-- the number of accounts may be written in another way
pub unfit_in : {n k a s : ℕ} {f : BookFault} → n ≡ k → Unfit n a s f → Unfit k a s f
unfit_in {a} {s} {f} e u = subst (λ j. Unfit j a s f) e u

pub fits_in : {n k a s : ℕ} → n ≡ k → Fits n a s → Fits k a s
fits_in {a} {s} e u = subst (λ j. Fits j a s) e u

pub refused_all : {X Y P : Type 0} (r : Result X Y) → P → IfErr r (λ _. P)
refused_all (Ok x) p = tt
refused_all (Err y) p = p

-- a refusal of the book below is one of the book above: as many accounts, and a sum above the one is above the other
pub refuses_in : {n k a s q most more : ℕ} {f : BookFault} → n ≡ k → (most < s → more < s) → Refuses n a s q most f → Refuses k a s q more f
refuses_in {a} {s} {f} e above r = ⊎_elim (λ u. inl (unfit_in e u)) (λ t. inr (t.0, fits_in e t.1, above t.2)) r

-- a move that fits, of a sum that is there, is not refused
pub not_refused : {count a s n most : ℕ} {f : BookFault} → Fits count a s → s ≤ most → Refuses count a s n most f → ⊥
not_refused fits le r =
    ⊎_elim
    (λ u. ⊎_elim (λ x. omega (arith, x.1)) (λ x. ⊎_elim (λ z. omega (arith, z)) (λ z. omega (arith, z)) x.2) u)
    (λ t. omega (arith, t.2)) r
