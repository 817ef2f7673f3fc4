-- What was read of a file and written out again, beside the file.
use Rattle.std.proofs.Common.{◌≡◌, ℕ, ◌+◌, Bool, true, false, List, [], ◌∷◌, ◌++◌, length, take, drop, Some, None, Option, sym, ap, ◌∙◌, append_assoc, arith, length-append, length-drop, Bor}
use Rattle.std.specs.List.{flat_map, AllByRecursion}
use Rattle.std.proofs.lemmas.List.{take_at}
use Rattle.layout.specs.declared.fault.ReadFault.{ReadFault}
use Rattle.layout.specs.Records.{Sized, encode}
use Rattle.files.specs.declared.placed.Placed.{Placed}
use Rattle.files.specs.Files.{said, Follow, Fronts}
use Rattle.files.proofs.Files.{follow_bytes, follow_within, follow_sized}
use Rattle.lines.specs.declared.line.Verdict.{Verdict}
use Rattle.lines.specs.Lines.{ending_text}
use Rattle.listing.specs.Listing.{entries_text, stop_text, read_of, verdict_of, Judged, listing_text}

module _ (file : Bor (List ℕ)) (ws : List Placed) where
  followed : (stop : Option ReadFault) → Fronts file ws stop → Follow file 0 ws (read_of file.now stop)
  followed None h = h.follow
  followed (Some f) h = h.follow

  pub sized : (stop : Option ReadFault) → Fronts file ws stop → AllByRecursion (λ w. Sized w.«record») ws
  sized stop h = follow_sized file 0 ws _ (followed stop h)

  -- as many bytes were written back as were read
  pub length_back : (stop : Option ReadFault) → Fronts file ws stop → length (flat_map encode (said ws)) ≡ read_of file.now stop
  length_back stop h =
      let f = followed stop h in
      let end = read_of file.now stop in
      omega (arith, follow_within file 0 ws end (omega arith) f, simp (length-append, length-drop) at (ap length (follow_bytes file 0 ws end f)))

  -- they are those that were read
  pub copy_is : (copy : List ℕ) (stop : Option ReadFault) → Fronts file ws stop → copy ≡ flat_map encode (said ws) → copy ≡ take (read_of file.now stop) file.now
  copy_is copy stop h e =
      let end = read_of file.now stop in
      e ∙ sym (ap (take end) (follow_bytes file 0 ws end (followed stop h)) ∙ take_at (flat_map encode (said ws)) (drop end file.now) end (length_back stop h))

  -- and they are the file just where all of it was read
  pub verdict_is : (copy : List ℕ) (cut : Bool) (stop : Option ReadFault) (v : Verdict) → Fronts file ws stop → copy ≡ flat_map encode (said ws) → Judged file.now copy cut v → v ≡ verdict_of file.now cut stop
  verdict_is copy true stop v h e j = j
  verdict_is copy false None v h e j = j.0 (e ∙ h.makes_up.bytes)
  verdict_is copy false (Some f) v h e j = j.1 (λ same. omega (arith, h.refuses.inside, length_back (Some f) h, ap length (sym same ∙ e)))

  -- the text of the whole, from its parts
  pub text_is : (copy : List ℕ) (cut : Bool) (stop : Option ReadFault) (v : Verdict) (n b : ℕ) (entries stopped all : List ℕ) → Fronts file ws stop → copy ≡ flat_map encode (said ws) → v ≡ verdict_of file.now cut stop → n ≡ length ws → b ≡ length copy → entries ≡ entries_text 1 ws → stopped ≡ entries ++ stop_text (n + 1) stop → all ≡ stopped ++ (ending_text (record { records = n; bytes = b; verdict = v }) ++ (10 ∷ [])) → all ≡ listing_text file.now cut ws stop
  text_is copy cut stop v n b entries stopped all h e ve ne be e₁ e₂ e₃ =
      let bytes : b ≡ read_of file.now stop = be ∙ ap length e ∙ length_back stop h in
      e₃ ∙ ap (λ t. t ++ (ending_text (record { records = n; bytes = b; verdict = v }) ++ (10 ∷ []))) e₂ ∙ append_assoc entries _ _ ∙ (λ i. e₁ i ++ (stop_text (ne i + 1) stop ++ (ending_text (record { records = ne i; bytes = bytes i; verdict = ve i }) ++ (10 ∷ []))))
