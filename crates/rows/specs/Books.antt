-- The book over any row: what it holds and means.
use Rattle.std.specs.Prelude.{ℕ, List}
use Rattle.book.specs.Figures.{Figures}
use Rattle.rows.specs.declared.row.Row.{Ghosts}
use Rattle.rows.specs.declared.figure_book.FigureBook.{FigureBook}
use Rattle.rows.specs.Rows.{table_means, Low}

abbrev pub figures_in : {R : Type 0} (G : Ghosts R) → FigureBook R → List ℕ
figures_in G b = G.figures b.row

abbrev pub means_of : {R : Type 0} (G : Ghosts R) → FigureBook R → List Figures
means_of G b = table_means (figures_in G b)

-- its standing rule: no figure passes 10^16
abbrev pub IsLow : {R : Type 0} (G : Ghosts R) → FigureBook R → Type 0
IsLow G b = Low (figures_in G b)
