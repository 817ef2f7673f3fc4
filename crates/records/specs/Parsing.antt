-- A body taken apart into the numbers of its fields.
use Rattle.std.specs.Prelude.{ℕ, ◌+◌, List, [], ◌∷◌, take, drop}
use Rattle.big_endian.specs.BigEndian.{number_of}
use Rattle.layout.specs.declared.kind.Kind.{Kind}
use Rattle.layout.specs.Layout.{widths}
use Rattle.layout.specs.Records.{Plain}

-- the numbers of the fields that stand in s from a place on
abbrev pub unpacked : List ℕ → ℕ → List ℕ → List ℕ
unpacked [] at s = []
unpacked (w ∷ ws) at s = number_of (take w (drop at s)) ∷ unpacked ws (at + w) s

-- the record of a kind whose body s begins with
abbrev pub parsed : Kind → List ℕ → Plain
parsed k s = record { kind = k; values = unpacked (widths k) 0 s }
