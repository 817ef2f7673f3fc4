-- The listing of a whole file.
use Rattle.std.specs.Prelude.{◌≡◌, ℕ, ◌+◌, Bool, true, false, List, [], ◌∷◌, ◌++◌, length, take, Some, None, vec_items, string_bytes, Option, ◌≢◌}
use Rattle.std.specs.Borrow.{Bor}
use Rattle.files.specs.declared.placed.Placed.{Placed}
use Rattle.files.specs.Files.{Fronts}
use Rattle.layout.specs.declared.fault.ReadFault.{ReadFault}
use Rattle.layout.specs.Faults.{place_of}
use Rattle.lines.specs.declared.line.Verdict.{Verdict}
use Rattle.lines.specs.declared.line.Verdict.TheVariants.{Same, Front, Longer}
use Rattle.listing.specs.declared.Listing.{Listing}
use Rattle.lines.specs.Lines.{entry_text, refusal_text, ending_text}

-- a line for each record, numbered on from a number
abbrev pub entries_text : ℕ → List Placed → List ℕ
entries_text n [] = []
entries_text n (w ∷ ws) = (entry_text n w.place w.«record» ++ (10 ∷ [])) ++ entries_text (n + 1) ws

-- a line for the refusal, if there is one
abbrev pub stop_text : ℕ → Option ReadFault → List ℕ
stop_text n None = []
stop_text n (Some f) = refusal_text n f ++ (10 ∷ [])

-- how many bytes of s stand before the refusal
abbrev pub read_of : List ℕ → Option ReadFault → ℕ
read_of s None = length s
read_of s (Some f) = place_of f

-- what is said of s, of which there may be more than was read
abbrev pub verdict_of : List ℕ → Bool → Option ReadFault → Verdict
verdict_of s true stop = Longer
verdict_of s false None = Same
verdict_of s false (Some f) = Front (length s)

-- what is said of s by comparing it with a copy
abbrev pub Judged : List ℕ → List ℕ → Bool → Verdict → Type 0
Judged s copy true v = v ≡ Longer
Judged s copy false v = (copy ≡ s → v ≡ Same) × ((copy ≢ s) → v ≡ Front (length s))

-- the whole text: the records, the refusal, and what was written back
abbrev pub listing_text : List ℕ → Bool → List Placed → Option ReadFault → List ℕ
listing_text s cut ws stop = entries_text 1 ws ++ (stop_text (length ws + 1) stop ++ (ending_text (record { records = length ws; bytes = read_of s stop; verdict = verdict_of s cut stop }) ++ (10 ∷ [])))

-- the listing has the records that the reader finds in the file, each on its line, then where and why it stopped, if
-- it did; what was written back is the file up to there, and is said to be the same file just where it is all of it
pub record Lists (file : Bor (List ℕ)) (cut : Bool) (l : Listing) : Type 0 where
  pub found : List Placed
  pub stop : Option ReadFault
  pub front : Fronts file found stop
  pub copy : vec_items l.copy ≡ take (read_of file.now stop) file.now
  pub text : string_bytes l.text ≡ listing_text file.now cut found stop
  pub verdict : l.verdict ≡ verdict_of file.now cut stop
