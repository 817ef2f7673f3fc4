-- The layout of a record: the letter of each kind, and the fields of its body.
use Rattle.std.specs.Prelude.{ℕ, ◌+◌, List, [], ◌∷◌}
use Rattle.layout.specs.declared.kind.Kind.{Kind}
use Rattle.layout.specs.declared.kind.Kind.TheVariants.{Opening, Fund, Draw, Submit, Activate, Withdraw, Reprioritise, Run, Show, Close}

-- the letters O F D S A W L R B C
abbrev pub letter_of : Kind → ℕ
letter_of Opening = 79
letter_of Fund = 70
letter_of Draw = 68
letter_of Submit = 83
letter_of Activate = 65
letter_of Withdraw = 87
letter_of Reprioritise = 76
letter_of Run = 82
letter_of Show = 66
letter_of Close = 67

-- how many bytes each field of the body has, in the fields' order
abbrev pub widths : Kind → List ℕ
widths Opening = 1 ∷ 8 ∷ 8 ∷ 8 ∷ []
widths Fund = 1 ∷ 8 ∷ []
widths Draw = 1 ∷ 8 ∷ []
widths Submit = 1 ∷ 1 ∷ 8 ∷ 1 ∷ 1 ∷ 8 ∷ []
widths Activate = 1 ∷ 4 ∷ []
widths Withdraw = 1 ∷ 4 ∷ []
widths Reprioritise = 1 ∷ 4 ∷ 1 ∷ []
widths Run = []
widths Show = []
widths Close = []

abbrev pub total : List ℕ → ℕ
total [] = 0
total (w ∷ ws) = w + total ws

-- how many bytes follow the letter
abbrev pub body_of : Kind → ℕ
body_of k = total (widths k)
