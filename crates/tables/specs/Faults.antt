-- The refusals of a row: their numbers and words.
use Rattle.std.specs.Prelude.{ℕ, List, ◌++◌, codes, decimal}
use Rattle.tables.specs.declared.fault.RowFault.{RowFault}
use Rattle.tables.specs.declared.fault.RowFault.TheVariants.{BadLength, LargeFigure}

abbrev pub row_number : RowFault → ℕ
row_number (BadLength length) = 13
row_number (LargeFigure place figure) = 2

abbrev pub row_words : RowFault → List ℕ
row_words (BadLength length) = codes "a row of " ++ (decimal length ++ codes " figures makes no book")
row_words (LargeFigure place figure) = codes "figure " ++ (decimal figure ++ (codes " at place " ++ (decimal place ++ codes " is above 10^16")))
