-- What the calls on a row answer and what they leave in it: the row before the call, the answer, the row after.
use Rattle.std.specs.Prelude.{◌≡◌, ℕ, ◌+◌, ◌<◌, ◌≤◌, Bool, List, ◌++◌, length, take, drop, Some, None, Ok, Err, vec_items, vec_len, vec_capacity, Option, Result, Vec, slice_index_or}
use Rattle.std.specs.List.{remove}
use Rattle.ordered.specs.declared.NoPlace.{NoPlace}
use Rattle.ordered.specs.Order.{placed}

-- the entry at a place goes behind all the others, which keep their order; or there is no such place, which the refusal names
abbrev pub Sent : {X : Type 0} → List X → ℕ → Result (Unit {0}) NoPlace → List X → Type 0
Sent before place (Ok u) after = (place < length before) × (after ≡ remove before place ++ take 1 (drop place before))
Sent before place (Err e) after = (length before ≤ place) × (after ≡ before) × (e.place ≡ place)

-- x came in at its place: there was room for it, and the capacity is as it was
pub record Entered {X Z : Type 0} (p : X → X → Bool) (x : X) (before after : Vec X Z) : Type 0 where
  pub room : vec_len before < vec_capacity before
  pub items : vec_items after ≡ placed p x (vec_items before)
  pub len : vec_len after ≡ vec_len before + 1
  pub capacity : vec_capacity after ≡ vec_capacity before

-- x was handed back as y: the row was full, and is as it was
pub record HandedBack {X Z : Type 0} (x y : X) (before after : Vec X Z) : Type 0 where
  pub full : vec_len before ≡ vec_capacity before
  pub same : after ≡ before
  pub entry : y ≡ x

-- an insertion: the entry came in, or was handed back
abbrev pub Inserted : {X Z U : Type 0} → (X → X → Bool) → X → Vec X Z → Result U X → Vec X Z → Type 0
Inserted p x before (Ok u) after = Entered p x before after
Inserted p x before (Err y) after = HandedBack x y before after

-- the entry x that stood at a place went out: the others keep their order, and the capacity is as it was
pub record TakenOut {X Z : Type 0} (place : ℕ) (x : X) (before after : Vec X Z) : Type 0 where
  pub within : place < vec_len before
  pub value : (d : X) → x ≡ slice_index_or (vec_items before) place d
  pub items : vec_items after ≡ remove (vec_items before) place
  pub len : vec_len after + 1 ≡ vec_len before
  pub capacity : vec_capacity after ≡ vec_capacity before

-- a removal: the entry went out, or there is no such place and the row is as it was
abbrev pub Removed : {X Z : Type 0} → ℕ → Vec X Z → Option X → Vec X Z → Type 0
Removed place before (Some x) after = TakenOut place x before after
Removed place before None after = (vec_len before ≤ place) × (after ≡ before)
