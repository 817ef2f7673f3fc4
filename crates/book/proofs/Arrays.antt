-- An array made by calls of a function has its value at each place.
use Rattle.std.proofs.Common.{◌≡◌, ℕ, zero, suc, ◌+◌, ◌<◌, ◌≤◌, ◌≢◌, List, get_or, sym, subst, ◌∙◌, ⊎_elim, arith}
use Rattle.std.proofs.lemmas.Bool.{cases_eq}
use Rattle.std.specs.Fn.{Mut}
use Rattle.std.specs.Iterator.{ActsAs}
use Rattle.std.specs.Array.{IsFromFnResult, IsFromFnResultFrom}

module _ {F B : Type 0} (g : Mut F (ℕ × Unit {0}) B) (h : ℕ → B) (ys : List B) (f : F) (acts : ActsAs g f h) where
  made_from : (i n : ℕ) → IsFromFnResultFrom g f ys i n → (k : ℕ) (e : B) → i ≤ k → k < i + n → get_or ys k e ≡ h k
  made_from i zero w k e low high = absurd (omega arith)
  made_from i (suc n) w k e low high =
      let is = acts i w.1 w.0 w.3 in
      ⊎_elim
      (λ (here : k ≡ i). subst (λ j. get_or ys j e ≡ h j) (sym here) (w.2.1 e ∙ is.1))
      (λ (on : k ≢ i). made_from (i + 1) n (subst (λ q. IsFromFnResultFrom g q ys (i + 1) n) is.0 w.4) k e (omega arith) (omega arith))
      (cases_eq k i)

  pub made : (n : ℕ) → IsFromFnResult g f ys n → (k : ℕ) (e : B) → k < n → get_or ys k e ≡ h k
  made n w k e lt = made_from 0 n w.each k e (omega arith) (omega arith)
