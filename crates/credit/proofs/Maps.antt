-- An array that is made of another, element by element.
use Rattle.std.proofs.Common.{◌≡◌, ℕ, ◌<◌, List, [], ◌∷◌, ◌++◌, map, length, get_or, sym, refl, ap, ◌∙◌, arith}
use Rattle.std.proofs.Math.ListN.{get_or-map as get_or-map_past}
use Rattle.std.proofs.lemmas.List.{same_lists, get_or-map, length-map}
use Rattle.std.specs.Array.{list_steps, IsMapOf}
use Rattle.std.specs.Fn.{Mut, Called}
use Rattle.std.specs.Iterator.{Yields, CallableAtEachTurn}

yielded : {A : Type 0} (xs ys t : List A) → Yields list_steps xs ys t → xs ≡ ys ++ t
yielded xs [] t e = e
yielded xs (y ∷ ys) t (j, s, r) = s ∙ ap (λ l. y ∷ l) (yielded j ys t r)

here : {A : Type 0} (xs ys : List A) (x d : A) → get_or (xs ++ x ∷ ys) (length xs) d ≡ x
here [] ys x d = refl
here (y ∷ xs) ys x d = here xs ys x d

-- what may be called at the element of each place may be called at each element in turn
pub serves_each : {A P : Type 0} {R : P → A → P → Type 0} {Q : P → A → Type 0} (xs : List A) (p : P) (d : A) → ((k : ℕ) (q : P) → Q q (get_or xs k d)) → CallableAtEachTurn list_steps R Q xs p
serves_each xs p d can = record {
  at = λ ys t q x u y f s.
      let at : get_or xs (length ys) d ≡ x = ap (λ l. get_or l (length ys) d) (yielded xs ys t y ∙ ap (λ l. ys ++ l) s) ∙ here ys u x d in
      rw (sym at) (can (length ys) q);
}

-- where v of what a call gives is h of its element, v of the new elements is h of the ones that they are made of
mapped : {F A B C : Type 0} {g : Mut F (A × Unit {0}) B} (v : B → C) (h : A → C) {f : F} (xs : List A) (ys : List B) (n : ℕ) → ((x : A) (y : B) (p q : F) → Called g p (x, tt) y q → v y ≡ h x) → length xs ≡ n → IsMapOf g f xs ys n → map v ys ≡ map h xs
mapped v h [] [] n calls len is = refl
mapped v h [] (y ∷ ys) n calls len is = let e : length (y ∷ ys) ≡ n = is.long in absurd (omega arith)
mapped v h (x ∷ xs) [] n calls len is = let e : 0 ≡ n = is.long in absurd (omega arith)
mapped v h (x ∷ xs) (y ∷ ys) n calls len is =
    let long : length (y ∷ ys) ≡ n = is.long in
    same_lists _ _ (simp length-map (omega arith))
    (λ k d lt.
    let lt : k < length (y ∷ ys) = simp length-map at lt in
    let here = is.at k x y (omega arith) in
    get_or-map v (y ∷ ys) k y d lt ∙ calls _ _ here.0 here.1 here.2 ∙ sym (get_or-map h (x ∷ xs) k x d (omega arith)))

pub mapped_at : {F A B C : Type 0} {g : Mut F (A × Unit {0}) B} (v : B → C) (h : A → C) {f : F} (xs : List A) (ys : List B) (n : ℕ) → ((x : A) (y : B) (p q : F) → Called g p (x, tt) y q → v y ≡ h x) → length xs ≡ n → IsMapOf g f xs ys n → (k : ℕ) (d : A) → get_or (map v ys) k (h d) ≡ h (get_or xs k d)
mapped_at v h xs ys n calls len is k d = ap (λ l. get_or l k (h d)) (mapped v h xs ys n calls len is) ∙ get_or-map_past h xs k d
