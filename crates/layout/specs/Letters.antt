-- Which kind a letter stands for.
use Rattle.std.specs.Prelude.{◌≡◌, ◌≢◌, ℕ, Ok, Err, Result}
use Rattle.layout.specs.declared.kind.Kind.{Kind}
use Rattle.layout.specs.declared.kind.NoKind.{NoKind}
use Rattle.layout.specs.Layout.{letter_of}

-- what a letter is answered as: the kind that has it, or that no kind has
abbrev pub Named : ℕ → Result Kind NoKind → Type 0
Named letter (Ok k) = letter_of k ≡ letter
Named letter (Err e) = ((k : Kind) → letter_of k ≢ letter) × (e.0 ≡ letter)
