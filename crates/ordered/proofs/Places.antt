-- An entry stands behind those that are ahead of it.
use Rattle.std.proofs.Common.{◌≡◌, suc, Bool, true, false, cond, List, [], ◌∷◌, refl, ap}
use Rattle.std.specs.List.{insert}
use Rattle.ordered.specs.Order.{ahead, placed}

module _ {X : Type 0} (p : X → X → Bool) (x : X) where
  pub placed_inserted : (xs : List X) → placed p x xs ≡ insert xs (ahead p x xs) x
  placed_inserted [] = refl
  placed_inserted (y ∷ ys) =
      elim (p x y) as (λ b. cond b (x ∷ y ∷ ys) (y ∷ placed p x ys) ≡ insert (y ∷ ys) (cond b 0 (suc (ahead p x ys))) x)
      [ true ↦ refl | false ↦ ap (λ zs. y ∷ zs) (placed_inserted ys) ]
