-- The section of the averages and how well they are fitted. Assumes nothing.
use Rattle.std.specs.Prelude.{ℕ, Bool, List, ◌++◌, ℤ}
use Rattle.composing.specs.Text.{ascii}
use Rattle.parts.specs.Parts.{only, section_head, section_end}
use Rattle.fit_tables.specs.Fit.{average_table, gap_table}
use Rattle.fit_words.specs.FitWords.{fit_words}

unfoldable pub fit_section : Bool → ℕ → ℕ → List ℤ → ℤ → ℤ → ℕ → List ℕ
fit_section html first k xs averages gaps lost =
    section_head html (ascii "Averages and fit")
    ++ (only html (ascii "<p><b>Average:</b> what was paid in a development year for each claim of the origin year, to the nearest hundredth, halves to the even one; darker where it is larger. <b>Fitted:</b> share times level. Blue is above the fitted value, orange below it; the four shades begin at more than 5, 10, 25 and 50 percent of the fitted value. Columns and diagonals fit by the method, so look for rows and corners of one colour: there the separation does not describe the payments well. Averages below zero are shaded orange; a payment that is not zero but whose average is 0.00 has a frame.</p>\n")
    ++ (average_table html first k xs ++ (fit_words html averages gaps lost ++ (gap_table html first k xs ++ section_end html))))
