-- The refusals of a page: their numbers and words.
use Rattle.std.specs.Prelude.{ℕ, List, ◌++◌, codes, decimal}
use Rattle.pages.specs.declared.fault.PageFault.{PageFault}
use Rattle.pages.specs.declared.fault.PageFault.TheVariants.{BadLength, BadLetter, LargeFigure}

-- the number of each refusal
abbrev pub page_number : PageFault → ℕ
page_number (BadLength length) = 13
page_number (BadLetter account letter) = 15
page_number (LargeFigure account figure) = 2

-- each refusal in words
abbrev pub page_words : PageFault → List ℕ
page_words (BadLength length) = codes "a page of " ++ (decimal length ++ codes " bytes makes no book")
page_words (BadLetter account letter) = codes "record " ++ (decimal account ++ (codes " begins with byte " ++ (decimal letter ++ codes ", and not with P")))
page_words (LargeFigure account figure) = codes "figure " ++ (decimal figure ++ (codes " of record " ++ (decimal account ++ codes " is above 10^16")))
