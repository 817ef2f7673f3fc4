-- The records of a file, one after another.
use Rattle.std.proofs.Common.{◌≡◌, ℕ, ◌+◌, ◌-◌, ◌≤◌, List, [], ◌∷◌, ◌++◌, length, take, drop, Some, None, Ok, Option, sym, refl, ap, ◌∙◌, subst, append_assoc, append-nil, arith, length-append, length-drop, Bor}
use Rattle.std.specs.List.{flat_map, AllByRecursion}
use Rattle.std.proofs.lemmas.List.{drop_all, take_at}
use Rattle.layout.specs.declared.fault.ReadFault.{ReadFault}
use Rattle.layout.specs.declared.record.Record.{Record}
use Rattle.layout.specs.Records.{plain, Sized, Sound, encode}
use Rattle.layout.specs.Faults.{place_of}
use Rattle.records.specs.Reading.{Stands, Lent, Refuses, Nexts}
use Rattle.records.proofs.Splitting.{none_stands}
use Rattle.records.proofs.WritingBack.{lent_sized}
use Rattle.files.specs.declared.placed.Placed.{Placed}
use Rattle.files.specs.Files.{said, Follow, MakesUp, Whole, Stopped}
use Rattle.files.proofs.Splitting.{splits_one_way, none_make_up}

module _ (file : Bor (List ℕ)) where
  follow_push : (at : ℕ) (ws : List Placed) (w : Placed) (mid next : ℕ) → Follow file at ws mid → w.place ≡ mid → Stands file.now mid (plain w.«record») next → Lent file (mid + 13) w.«record» → Follow file at (ws ++ w ∷ []) next
  follow_push at [] w mid next h e st l = (
    e ∙ sym h,
    subst (λ (n : ℕ). Lent file (n + 13) w.«record») (sym h) l,
    (next, subst (λ (n : ℕ). Stands file.now n (plain w.«record») next) (sym h) st, refl),
  )
  follow_push at (x ∷ ws) w mid next h e st l = (h.0, h.1, (h.2.0, h.2.1, follow_push h.2.0 ws w mid next h.2.2 e st l))

  pub follow_bytes : (at : ℕ) (ws : List Placed) (end : ℕ) → Follow file at ws end → drop at file.now ≡ flat_map encode (said ws) ++ drop end file.now
  follow_bytes at [] end h = ap (λ n. drop n file.now) h
  follow_bytes at (w ∷ ws) end h =
      h.2.1.bytes ∙ ap (λ l. encode (plain w.«record») ++ l) (follow_bytes h.2.0 ws end h.2.2) ∙ sym (append_assoc (encode (plain w.«record»)) (flat_map encode (said ws)) (drop end file.now))

  pub follow_sized : (at : ℕ) (ws : List Placed) (end : ℕ) → Follow file at ws end → AllByRecursion (λ w. Sized w.«record») ws
  follow_sized at [] end h = tt
  follow_sized at (w ∷ ws) end h = (lent_sized file at w.«record» h.2.0 h.2.1 h.1, follow_sized h.2.0 ws end h.2.2)

  follow_sound : (at : ℕ) (ws : List Placed) (end : ℕ) → Follow file at ws end → AllByRecursion Sound (said ws)
  follow_sound at [] end h = tt
  follow_sound at (w ∷ ws) end h = (h.2.1.sound, follow_sound h.2.0 ws end h.2.2)

  pub follow_within : (at : ℕ) (ws : List Placed) (end : ℕ) → at ≤ length file.now → Follow file at ws end → end ≤ length file.now
  follow_within at [] end le h = omega arith
  follow_within at (w ∷ ws) end le h = follow_within h.2.0 ws end h.2.1.within h.2.2

  whole : (ws : List Placed) (end : ℕ) → length file.now ≤ end → Follow file 0 ws end → Whole file ws
  whole ws end past f =
      let is : end ≡ length file.now = omega (arith, follow_within 0 ws end (omega arith) f) in
      let h : Follow file 0 ws (length file.now) = subst (Follow file 0 ws) is f in
      let made : MakesUp (said ws) file.now = record {
        bytes = sym (follow_bytes 0 ws _ h ∙ ap (λ l. flat_map encode (said ws) ++ l) (drop_all _ file.now (omega arith)) ∙ append-nil _);
        sound = follow_sound 0 ws _ h;
      } in
      record { follow = h; makes_up = made; only = λ ps k. splits_one_way file.now ps (said ws) k made }

  stopped : (ws : List Placed) (at : ℕ) (f : ReadFault) → Follow file 0 ws at → Refuses file.now at f → Stopped file ws f
  stopped ws at f h' r' =
      let h : Follow file 0 ws (place_of f) = subst (Follow file 0 ws) (sym r'.place) h' in
      let r : Refuses file.now (place_of f) f = subst (λ (n : ℕ). Refuses file.now n f) (sym r'.place) r' in
      let none = none_stands file.now (place_of f) f r in
      record {
        follow = h;
        refuses = r;
        none = none;
        unmade = none_make_up file.now (place_of f) (said ws) r.inside (follow_bytes 0 ws _ h) (follow_sound 0 ws _ h) none;
      }

-- a reader's turn that found one record more
pub follow_next : (file file' : Bor (List ℕ)) (ws ws' : List Placed) (w : Placed) (at next : ℕ) (o : Option Record) → Follow file 0 ws at → file' ≡ file → ws' ≡ ws ++ w ∷ [] → w.place ≡ at → o ≡ Some w.«record» → Nexts file at next (Ok o) → Follow file' 0 ws' next
follow_next file file' ws ws' w at next o h same items place is answer =
    let told : Nexts file at next (Ok (Some w.«record»)) = subst (λ (x : Option Record). Nexts file at next (Ok x)) is answer in
    let more = follow_push file 0 ws w at next h place told.0 told.1 in
    subst (λ (f : Bor (List ℕ)). Follow f 0 ws' next) (sym same) (subst (λ (xs : List Placed). Follow file 0 xs next) (sym items) more)

-- one that found the file's end
pub whole_at : (file file' : Bor (List ℕ)) (ws : List Placed) (at next : ℕ) (o : Option Record) → Follow file 0 ws at → file ≡ file' → o ≡ None → Nexts file at next (Ok o) → Whole file' ws
whole_at file file' ws at next o h same is answer =
    let told : Nexts file at next (Ok None) = subst (λ (x : Option Record). Nexts file at next (Ok x)) is answer in
    subst (λ (f : Bor (List ℕ)). Whole f ws) same (whole file ws at told.0 h)

-- one that was refused
pub stopped_at : (file file' : Bor (List ℕ)) (ws : List Placed) (at : ℕ) (f : ReadFault) → Follow file 0 ws at → file ≡ file' → Refuses file.now at f → Stopped file' ws f
stopped_at file file' ws at f h same r = subst (λ (x : Bor (List ℕ)). Stopped x ws f) same (stopped file ws at f h r)

-- a space that begins with some bytes, cut at their number
pub cut_space : (n : ℕ) (bytes space old : List ℕ) → space ≡ bytes ++ drop n old → length space ≡ length old → n ≤ length old → take (n - 0) space ≡ bytes
cut_space n bytes space old e same room =
    let long : length bytes ≡ n = omega (arith, simp (length-append, length-drop) at (ap length e)) in
    let whole-cut : n - 0 ≡ n = omega arith in
    ap (λ k. take k space) whole-cut ∙ ap (take n) e ∙ take_at bytes (drop n old) n long
