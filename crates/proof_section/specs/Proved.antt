-- The section of what is proved and how figures are rounded, and that of a refused record. Its paragraphs stand on both pages. Assumes nothing.
use Rattle.std.specs.Prelude.{ℕ, ◌+◌, Bool, List, ◌++◌, ℤ}
use Rattle.composing.specs.Text.{ascii, decimal}
use Rattle.parts.specs.Parts.{section_head, section_end}
use Rattle.paragraphs.specs.Paragraphs.{words, paragraph_start, paragraph_end, paragraph}
use Rattle.single_tables.specs.Singles.{limits_table}

-- every figure is what the rules define
abbrev pub every_figure : List ℕ
every_figure =
    ascii "1. Every figure on this page is proved, for every record that can be accepted and not for tried ones only, to be what\nthe rules define from the record; docs/PROVED.md of the package names each statement, what it rests on and what is not\ncovered."

-- an exact solution, and how near the shares of the years 0 to k are to it: what is before k + 1, and what is after it
abbrev pub exact_solution : List ℕ
exact_solution =
    ascii "2. For every accepted record Taylor's equations are proved to have an exact solution; the printed shares sum to 1\nexactly, and the share of development year j is less than "

abbrev pub shares_near : List ℕ
shares_near = ascii " - j billionths from the exact one."

unfoldable pub shares_paragraph : Bool → ℕ → List ℕ
shares_paragraph html k = paragraph_start html ++ (words html exact_solution ++ (decimal (k + 1) ++ (words html shares_near ++ paragraph_end html)))

-- every amount is within its allowance
abbrev pub every_amount : List ℕ
every_amount =
    ascii "3. Every completed payment, tail payment, provision, ULAE reserve and total is proved to be within its allowance of that\nexact solution carried on without rounding, from the averages and the ULAE ratio as printed."

-- how figures are rounded
abbrev pub roundings : List ℕ
roundings =
    ascii "4. Averages go to the nearest hundredth, halves to the even one, and every later step drops its fraction (57.99 becomes\n57), so that amounts mostly come out a little low; how far from the exact ones at most, the allowance says."

-- what is not said
abbrev pub no_range : List ℕ
no_range =
    ascii "5. Nothing here is a range of outcomes: how well past payments foretell future ones, and whether exposures, indices and\nreporting shares are right, is for the actuary to judge."

-- the paragraphs
unfoldable pub proved_paragraphs : Bool → ℕ → List ℕ
proved_paragraphs html k =
    paragraph html every_figure ++ (shares_paragraph html k ++ (paragraph html every_amount ++ (paragraph html roundings ++ paragraph html no_range)))

-- the section
unfoldable pub proof_section : Bool → ℕ → List ℤ → List ℕ
proof_section html k figures =
    section_head html (ascii "What is proved, and how figures are rounded") ++ (proved_paragraphs html k ++ (limits_table html figures ++ section_end html))

-- of a refused record
abbrev pub every_record : List ℕ
every_record =
    ascii "Every record is proved to get either all of its figures or the number of the first question, in the order in which they\nare put, whose answer is no; a refused record leaves nothing half done. The questions before this one were answered yes."

unfoldable pub refused_proof : Bool → List ℕ
refused_proof html = section_head html (ascii "What is proved") ++ (paragraph html every_record ++ section_end html)
