-- The section of a refused record: the question, where it is answered no, what is not so, the figures there, and where to look. Assumes nothing.
use Rattle.std.specs.Prelude.{ℕ, Bool, cond, List, [], ◌++◌, eqb}
use Rattle.composing.specs.Text.{ascii, decimal}
use Rattle.parts.specs.Parts.{either, section_end}
use Rattle.advice.specs.Advice.{asked_text, said_text, advice_text}
use Rattle.finding.specs.declared.Finding.{Finding}
use Rattle.finding.specs.Places.{nowhere}
use Rattle.place_words.specs.PlaceWords.{place_text}
use Rattle.finding_table.specs.FindingTable.{finding_table}

-- the place, where there is one
unfoldable pub place_words : Bool → ℕ → Finding → List ℕ
place_words html first f =
    either html (ascii " at <b>") (ascii " at ") ++ (place_text first f.place f.row f.column ++ either html (ascii "</b>") (ascii ""))

unfoldable pub at_place : Bool → ℕ → Finding → List ℕ
at_place html first f = cond (eqb f.place nowhere) [] (place_words html first f)

-- the number of the question, in the heading and below it, and the place
unfoldable pub refused_heading : Bool → ℕ → ℕ → Finding → List ℕ
refused_heading html first n f =
    either html (ascii "<section>\n<h2>Refused: question ") (ascii "\nRefused: question ")
    ++ (decimal n
    ++ (either html (ascii "</h2>\n<p><b>No figures are given for this record.</b> Question ") (ascii "\n\nNo figures are given for this record. Question ")
    ++ (decimal n
    ++ (ascii " was answered no" ++ (at_place html first f ++ either html (ascii ":</p>\n<p><b>") (ascii ":\n"))))))

-- the question as it is put, what is not so, the figures and where to look
unfoldable pub refused_section : Bool → ℕ → ℕ → Finding → List ℕ
refused_section html first n f =
    refused_heading html first n f
    ++ (asked_text n
    ++ (either html (ascii "</b></p>\n<p>") (ascii "\n")
    ++ (said_text n
    ++ (either html (ascii "</p>\n") (ascii "\n")
    ++ (finding_table html n f
    ++ (either html (ascii "<p>") (ascii "\n") ++ (advice_text n ++ (either html (ascii "</p>\n") (ascii "\n") ++ section_end html))))))))
