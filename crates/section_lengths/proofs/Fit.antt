-- How long the section of the averages and the fit is at most. Assumes nothing.
use mathlib.Core.Bool.{Bool, true, false, cond}
use mathlib.Core.List.{List, [], ◌++◌}
use Prim.Native.Nat.{ℕ, ◌≤◌, ◌<◌}
use native.Mathlib.Omega.{arith}
use lib.Dec.{eqb}
use lib.IntN.{ℤ}
use lib.ListN.{length, length-append}
use Rattle.composing.specs.Text.{ascii, decimal, fixed}
use Rattle.composing.proofs.Decimals.{length_most}
use Rattle.lines.proofs.Longest.{longest_from}
use Rattle.numerals.specs.Numerals.{number}
use Rattle.numerals.proofs.Lengths.{fixed_most, number_most}
use Rattle.parts.specs.Parts.{either}
use Rattle.parts.proofs.Lengths.{either_most, section_end_most}
use Rattle.table_lengths.proofs.Most.{table_most}
use Rattle.fit_tables.specs.Fit.{average_table, gap_table}
use Rattle.fit_sums.specs.FitSums.{hundredths, fit_sums}
use Rattle.fit_words.specs.FitWords.{lost_payments, fit_words}
use Rattle.fit_section.specs.FitSection.{fit_section}
use Rattle.section_lengths.proofs.Tables.{summed_most}
use Rattle.section_lengths.proofs.Opened.{opened_most}

average_table_most : (html : Bool) (first k : ℕ) (xs : List ℤ) → k < 16 → length (average_table html first k xs) ≤ 29000
unfolding average_table table_most longest_from
average_table_most html first k xs h = summed_most html _ _ first k _ _ _ 16 29000 h (omega arith) (omega arith)

gap_table_most : (html : Bool) (first k : ℕ) (xs : List ℤ) → k < 16 → length (gap_table html first k xs) ≤ 31000
unfolding gap_table table_most longest_from
gap_table_most html first k xs h = summed_most html _ _ first k _ _ _ 17 31000 h (omega arith) (omega arith)

-- the words between them
hundredths_most : (html : Bool) (z : ℤ) → length (hundredths html z) ≤ 67
unfolding hundredths
hundredths_most html z = either_most html (number 2 z) (fixed 2 z) 67 (omega (arith, number_most 2 z)) (omega (arith, fixed_most 2 z))

sums_most : (html : Bool) (averages gaps : ℤ) → length (fit_sums html averages gaps) ≤ 300
unfolding fit_sums
sums_most html averages gaps =
    simp length-append
    (omega
    (arith, hundredths_most html averages, hundredths_most html gaps, either_most html (ascii "<p>All averages add up to ") (ascii "\nAll averages add up to ") 30 (omega arith) (omega arith), either_most html (ascii " a claim, the sizes of observed less fitted to <b>") (ascii " a claim, the sizes of observed less fitted to ") 60 (omega arith) (omega arith), either_most html (ascii "</b>.</p>\n") (ascii ".\n") 10 (omega arith) (omega arith)))

lost_most : (html : Bool) (lost : ℕ) → length (lost_payments html lost) ≤ 300
unfolding lost_payments either
lost_most true lost = go (eqb lost 0)
  where
    go : (none : Bool)
        → length
        (cond
        none
        []
        (ascii "<p><b>Payments that are not zero and have an average of 0.00: "
        ++ (decimal lost ++ (ascii ". " ++ (ascii "The exposures are too large for the amounts, which should be given in a smaller unit." ++ ascii "</b></p>\n")))))
        ≤ 300
    go true = omega arith
    go false = simp length-append (omega (arith, length_most lost))
lost_most false lost = go (eqb lost 0)
  where
    go : (none : Bool)
        → length
        (cond
        none
        []
        (ascii "Payments that are not zero and have an average of 0.00: "
        ++ (decimal lost ++ (ascii ".\n" ++ (ascii "The exposures are too large for the amounts, which should be given in a smaller unit." ++ ascii "\n")))))
        ≤ 300
    go true = omega arith
    go false = simp length-append (omega (arith, length_most lost))

pub fit_most : (html : Bool) (first k : ℕ) (xs : List ℤ) (averages gaps : ℤ) (lost : ℕ) → k < 16 → length (fit_section html first k xs averages gaps lost) ≤ 62000
unfolding fit_section fit_words
fit_most html first k xs averages gaps lost h =
    opened_most html _ _ _ 61000 62000
    (simp length-append
    (omega
    (arith, average_table_most html first k xs h, sums_most html averages gaps, lost_most html lost, gap_table_most html first k xs h, section_end_most html)))
    (omega arith)
