-- A record by what it says, and its bytes.
use Rattle.std.specs.Prelude.{◌≡◌, ℕ, ◌+◌, ◌^◌, ◌<◌, List, [], ◌∷◌, ◌++◌, length, IfSome, Some, None, Option}
use Rattle.std.specs.Borrow.{Bor}
use Rattle.std.specs.List.{AllZip}
use Rattle.big_endian.specs.BigEndian.{bytes_of, number_of}
use Rattle.layout.specs.declared.kind.Kind.{Kind}
use Rattle.layout.specs.declared.kind.Kind.TheVariants as kinds
use Rattle.layout.specs.declared.record.Record.{Record}
use Rattle.layout.specs.declared.record.Record.TheVariants.{Opening, Fund, Draw, Submit, Activate, Withdraw, Reprioritise, Run, Show, Close}
use Rattle.layout.specs.Layout.{letter_of, widths, body_of}

-- a record apart from where its reference lies: its kind, and the number in each field of its body
pub record Plain : Type 0 where
  pub kind : Kind
  pub values : List ℕ

-- what a record says; a reference counts as the number that its bytes write
abbrev pub plain : Record → Plain
plain (Opening account figure limit room) = record { kind = kinds.Opening; values = account ∷ figure ∷ limit ∷ room ∷ [] }
plain (Fund account amount) = record { kind = kinds.Fund; values = account ∷ amount ∷ [] }
plain (Draw account amount) = record { kind = kinds.Draw; values = account ∷ amount ∷ [] }
plain (Submit sender receiver amount priority flag reference) = record { kind = kinds.Submit; values = sender ∷ receiver ∷ amount ∷ priority ∷ flag ∷ number_of reference.now ∷ [] }
plain (Activate sender receipt) = record { kind = kinds.Activate; values = sender ∷ receipt ∷ [] }
plain (Withdraw sender receipt) = record { kind = kinds.Withdraw; values = sender ∷ receipt ∷ [] }
plain (Reprioritise sender receipt priority) = record { kind = kinds.Reprioritise; values = sender ∷ receipt ∷ priority ∷ [] }
plain Run = record { kind = kinds.Run; values = [] }
plain Show = record { kind = kinds.Show; values = [] }
plain Close = record { kind = kinds.Close; values = [] }

-- the reference that a record borrows, where it has one
abbrev pub reference_of : Record → Option (Bor (List ℕ))
reference_of (Opening account figure limit room) = None
reference_of (Fund account amount) = None
reference_of (Draw account amount) = None
reference_of (Submit sender receiver amount priority flag reference) = Some reference
reference_of (Activate sender receipt) = None
reference_of (Withdraw sender receipt) = None
reference_of (Reprioritise sender receipt priority) = None
reference_of Run = None
reference_of Show = None
reference_of Close = None

-- the reference, where there is one, has eight bytes
abbrev pub Sized : Record → Type 0
Sized w = IfSome (reference_of w) (λ reference. length reference.now ≡ 8)

-- there is a value for each field, and it fits the field's bytes
abbrev pub Fit : List ℕ → List ℕ → Type 0
Fit ws vs = AllZip (λ w v. v < 256 ^ w) ws vs

-- the values are as many and as large as the kind allows
abbrev pub Sound : Plain → Type 0
Sound p = Fit (widths p.kind) p.values

-- the bytes of the fields, one field after the other
abbrev pub packed : List ℕ → List ℕ → List ℕ
packed [] vs = []
packed (w ∷ ws) [] = []
packed (w ∷ ws) (v ∷ vs) = bytes_of w v ++ packed ws vs

-- a record's bytes
abbrev pub encode : Plain → List ℕ
encode p = letter_of p.kind ∷ packed (widths p.kind) p.values

-- how many they are
abbrev pub size_of : Plain → ℕ
size_of p = 1 + body_of p.kind
