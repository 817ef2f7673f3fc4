-- What a row holds after its part from a place on was turned by one.
use Rattle.std.proofs.Common.{◌≡◌, ℕ, ◌-◌, ◌≤◌, Bool, List, [], ◌∷◌, ◌++◌, length, take, drop, sym, ap, ◌∙◌, add-one, arith, length-drop}
use borrow.Rule.Slice.PartMut.{put_mid}
use Rattle.std.proofs.lemmas.List.{append-nil, append_assoc, drop_all, drop-append-le, drop_at, drop-drop, length_push, same_from_push, take-append-le, take_at}
use Rattle.std.specs.List.{insert, remove}
use Rattle.ordered.specs.Order.{ahead, placed}
use Rattle.ordered.proofs.Places.{placed_inserted}

module _ {X : Type 0} where
  -- nothing lies past a part that reaches the end
  rest_put : (row ys : List X) (i : ℕ) → put_mid i (length row - i) row ys ≡ take i row ++ ys
  rest_put row ys i =
      let l : length (drop i row) ≤ length row - i = rw length-drop (omega arith) in
      rw (drop_all (length row - i) (drop i row) l, append-nil)

  -- the first of the part went to its end
  pub turned_left : (row ys : List X) (i : ℕ) → ys ≡ drop 1 (drop i row) ++ take 1 (drop i row) →
      put_mid i (length row - i) row ys ≡ remove row i ++ take 1 (drop i row)
  turned_left row ys i turned = rw (rest_put row ys i, turned, drop-drop 1 i row, add-one, append_assoc)

  -- the last of the part went to its front
  turned_right : (xs : List X) (x : X) (row part ys : List X) (i : ℕ) →
      row ≡ xs ++ x ∷ [] → i ≤ length xs → part ≡ drop i row →
      ys ≡ drop (length part - 1) part ++ take (length part - 1) part →
      put_mid i (length row - i) row ys ≡ insert xs i x
  turned_right xs x row part ys i is within from turned =
      let cut : part ≡ drop i xs ++ x ∷ [] = from ∙ ap (drop i) is ∙ drop-append-le i xs (x ∷ []) within in
      let n : length (drop i xs) ≡ length part - 1 = omega (arith, ap length cut ∙ length_push (drop i xs) x) in
      let now : ys ≡ x ∷ drop i xs =
      turned
      ∙ ap (λ ws. drop (length part - 1) ws ++ take (length part - 1) ws) cut
      ∙ rw (drop_at (drop i xs) (x ∷ []) (length part - 1) n, take_at (drop i xs) (x ∷ []) (length part - 1) n) in
      rest_put row ys i ∙ ap (λ ws. take i ws ++ ys) is ∙ rw (take-append-le i xs (x ∷ []) within, now)

  -- the last of the row went to the place that was found for it
  pub placed_last : (p : X → X → Bool) (others : List X) (last : X) (row part ys : List X) (i : ℕ) →
      row ≡ others ++ last ∷ [] → i ≡ ahead p last others → i ≤ length others → part ≡ drop i row →
      ys ≡ drop (length part - 1) part ++ take (length part - 1) part →
      (xs : List X) (x : X) → row ≡ xs ++ x ∷ [] → put_mid i (length row - i) row ys ≡ placed p x xs
  placed_last p others last row part ys i split found within from turned xs x is =
      let same = same_from_push others xs last x (sym split ∙ is) in
      let here : i ≡ ahead p x xs = found ∙ ap (λ z. ahead p z others) same.1 ∙ ap (ahead p x) same.0 in
      turned_right xs x row part ys i is (omega (arith, within, ap length same.0)) from turned
      ∙ ap (λ k. insert xs k x) here
      ∙ sym (placed_inserted p x xs)
