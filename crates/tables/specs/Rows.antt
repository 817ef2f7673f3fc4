-- Which rows make a table.
use Rattle.std.specs.Prelude.{◌≡◌, ℕ, ◌^◌, ◌<◌, ◌≤◌, ◌⊎◌, List, [], length, Ok, Err, Result, slice_index}
use Rattle.tables.specs.declared.fault.RowFault.{RowFault}
use Rattle.tables.specs.declared.fault.RowFault.TheVariants.{BadLength, LargeFigure}
use Rattle.tables.specs.Faults.{row_number}
use Rattle.rows.specs.Rows.{Low}

-- a row that makes a book: 1 to 16 figures, none of them too large
pub record GoodRow (ns : List ℕ) : Type 0 where
  pub some : 1 ≤ length ns
  pub few : length ns ≤ 16
  pub low : Low ns

-- refusal 13 for the length, then 2 for the first figure that is too large
abbrev pub RowRefuses : List ℕ → RowFault → Type 0
RowRefuses ns f =
    ((row_number f ≡ 13) × (f ≡ BadLength (length ns)) × ((length ns ≡ 0) ⊎ (16 < length ns)))
    ⊎ ((k : ℕ) × (row_number f ≡ 2) × (f ≡ LargeFigure k (slice_index ns k)) × (1 ≤ length ns) × (length ns ≤ 16) × (10 ^ 16 < slice_index ns k) × ((j : ℕ) → j < k → slice_index ns j ≤ 10 ^ 16))

abbrev pub RowChecked : List ℕ → Result (Unit {0}) RowFault → Type 0
RowChecked ns (Ok u) = GoodRow ns
RowChecked ns (Err f) = RowRefuses ns f

-- the row that a book keeps: a bad one makes a book with no accounts
pub record Keeps (ns kept : List ℕ) : Type 0 where
  pub good : GoodRow ns → kept ≡ ns
  pub bad : (GoodRow ns → ⊥) → kept ≡ []
