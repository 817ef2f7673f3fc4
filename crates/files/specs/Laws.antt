-- What holds of every file, whatever reads it.
use Rattle.std.specs.Prelude.{◌≡◌, ℕ, List}
use Rattle.layout.specs.Records.{Plain}
use Rattle.files.specs.Files.{MakesUp}

-- a file splits into records in one way
abbrev pub SplitsOneWay : Type 0
SplitsOneWay = (s : List ℕ) (ps qs : List Plain) → MakesUp ps s → MakesUp qs s → ps ≡ qs
