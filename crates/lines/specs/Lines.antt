-- The text of a listing's lines, byte by byte.
use Rattle.std.specs.Prelude.{ℕ, List, ◌++◌, codes, decimal}
use Rattle.layout.specs.declared.fault.ReadFault.{ReadFault}
use Rattle.layout.specs.declared.record.Record.{Record}
use Rattle.layout.specs.declared.record.Record.TheVariants.{Opening, Fund, Draw, Submit, Activate, Withdraw, Reprioritise, Run, Show, Close}
use Rattle.layout.specs.Faults.{read_number, place_of, fault_words}
use Rattle.lines.specs.declared.line.Ending.{Ending}
use Rattle.lines.specs.declared.line.Verdict.{Verdict}
use Rattle.lines.specs.declared.line.Verdict.TheVariants.{Same, Front, Longer}
use Rattle.lines.specs.Hex.{hex_of}

-- a record's letter, its kind in words, and its fields by name
abbrev pub fields_text : Record → List ℕ
fields_text (Opening account figure limit room) = codes "O opening account=" ++ (decimal account ++ (codes " figure=" ++ (decimal figure ++ (codes " limit=" ++ (decimal limit ++ (codes " room=" ++ decimal room))))))
fields_text (Fund account amount) = codes "F fund account=" ++ (decimal account ++ (codes " amount=" ++ decimal amount))
fields_text (Draw account amount) = codes "D draw account=" ++ (decimal account ++ (codes " amount=" ++ decimal amount))
fields_text (Submit sender receiver amount priority flag reference) = codes "S submit sender=" ++ (decimal sender ++ (codes " receiver=" ++ (decimal receiver ++ (codes " amount=" ++ (decimal amount ++ (codes " priority=" ++ (decimal priority ++ (codes " flag=" ++ (decimal flag ++ (codes " reference=" ++ hex_of reference.now))))))))))
fields_text (Activate sender receipt) = codes "A activate sender=" ++ (decimal sender ++ (codes " receipt=" ++ decimal receipt))
fields_text (Withdraw sender receipt) = codes "W withdraw sender=" ++ (decimal sender ++ (codes " receipt=" ++ decimal receipt))
fields_text (Reprioritise sender receipt priority) = codes "L reprioritise sender=" ++ (decimal sender ++ (codes " receipt=" ++ (decimal receipt ++ (codes " priority=" ++ decimal priority))))
fields_text Run = codes "R run"
fields_text Show = codes "B show"
fields_text Close = codes "C close"

-- what stands at a place, after its number in the file
abbrev pub place_text : ℕ → ℕ → List ℕ → List ℕ
place_text number place text = decimal number ++ (codes " at " ++ (decimal place ++ (codes ": " ++ text)))

abbrev pub entry_text : ℕ → ℕ → Record → List ℕ
entry_text number place w = place_text number place (fields_text w)

abbrev pub refusal_text : ℕ → ReadFault → List ℕ
refusal_text number f = place_text number (place_of f) (codes "refused " ++ (decimal (read_number f) ++ (codes ", " ++ fault_words f)))

abbrev pub verdict_text : Verdict → List ℕ
verdict_text Same = codes "the same file"
verdict_text (Front of) = codes "not the same file, which has " ++ (decimal of ++ codes " bytes")
verdict_text Longer = codes "not the same file, which is longer than 65536 bytes and was read no further"

abbrev pub ending_text : Ending → List ℕ
ending_text e = codes "wrote back records=" ++ (decimal e.records ++ (codes " bytes=" ++ (decimal e.bytes ++ (codes ": " ++ verdict_text e.verdict))))
