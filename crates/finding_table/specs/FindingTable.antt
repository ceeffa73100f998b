-- The table of the figures where a question says no. Assumes nothing.
use Rattle.std.specs.Prelude.{ℕ, Bool, cond, List, [], ◌++◌, eqb}
use Rattle.composing.specs.Text.{ascii}
use Rattle.finding.specs.declared.Finding.{Finding}
use Rattle.question_figures.specs.QuestionFigures.{amount, hundredths, millionths, billionths, ratio, value_words, claim_words, figure_table, field_table, development_table}

-- 1: the bytes given
unfoldable pub given_table : Bool → Finding → List ℕ
given_table html f = figure_table html value_words (ascii "Bytes given\n") 1 amount 0 0 f

-- 2: and due
unfoldable pub length_table : Bool → Finding → List ℕ
length_table html f = figure_table html value_words (ascii "Bytes given\nBytes due for this k\n") 2 amount amount 0 f

-- 5: the sum of the reporting shares
unfoldable pub shares_table : Bool → Finding → List ℕ
shares_table html f = figure_table html value_words (ascii "Sum of the reporting shares\nWhat it should be\n") 2 millionths millionths 0 f

-- 6: a cumulative
unfoldable pub cumulative_table : Bool → Finding → List ℕ
cumulative_table html f = figure_table html value_words (ascii "Cumulative payment\n") 1 amount 0 0 f

-- 7: the sum of a column, a diagonal or the triangle
unfoldable pub totals_table : Bool → Finding → List ℕ
totals_table html f = figure_table html claim_words (ascii "Sum of averages\n") 1 hundredths 0 0 f

-- 8: T_h, v_h and what is left
unfoldable pub rest_table : Bool → Finding → List ℕ
rest_table html f = figure_table html claim_words (ascii "T_h: averages in columns 0 to h, without the h earliest payment years\nv_h: averages in column h\nT_h less v_h\n") 3 hundredths hundredths hundredths f

-- 9: a running share
unfoldable pub running_table : Bool → Finding → List ℕ
running_table html f = figure_table html value_words (ascii "Running share\n") 1 billionths 0 0 f

-- 10: a level and what it is made from
unfoldable pub level_table : Bool → Finding → List ℕ
level_table html f = figure_table html value_words (ascii "Diagonal, a claim\nRunning share\nLevel, a claim\n") 3 hundredths billionths hundredths f

-- 18: the average amount after the last year
unfoldable pub tail_table : Bool → Finding → List ℕ
tail_table html f = figure_table html value_words (ascii "Still to be paid after the last development year\nClaims\nAverage, a claim\n") 3 amount amount hundredths f

-- 19: that of an origin year, and the indices that carry it there
unfoldable pub tail_average_table : Bool → Finding → List ℕ
tail_average_table html f = figure_table html value_words (ascii "Average tail amount, a claim\nIndex of its tail payment\nIndex of the first future year\n") 3 hundredths millionths millionths f

-- 11: an ultimate and its parts
unfoldable pub ultimate_table : Bool → Finding → List ℕ
ultimate_table html f = figure_table html value_words (ascii "Paid\nProvision\nUltimate\n") 3 amount amount amount f

-- 12: the totals of payments and ULAE
unfoldable pub total_table : Bool → Finding → List ℕ
total_table html f = figure_table html value_words (ascii "Payments in total\nULAE paid in total\n") 2 amount amount 0 f

-- 15: Y
unfoldable pub latest_table : Bool → Finding → List ℕ
latest_table html f = figure_table html value_words (ascii "Y: paid in this payment year\n") 1 amount 0 0 f

-- 16: what the divisor is made from
unfoldable pub divisor_table : Bool → Finding → List ℕ
divisor_table html f = figure_table html value_words (ascii "Reporting weight\nB: reported in the latest year, at its ultimate cost\nY: paid in the latest payment year\n") 3 millionths amount amount f

-- 17: the ratios and the divisor
unfoldable pub corrected_table : Bool → Finding → List ℕ
corrected_table html f = figure_table html value_words (ascii "Plain ULAE ratio\nDivisor\nCorrected ULAE ratio\n") 3 ratio millionths ratio f

-- 14: a completed cumulative and what it is made from
unfoldable pub completed_table : Bool → Finding → List ℕ
completed_table html f = figure_table html value_words (ascii "Cumulative before it\nDevelopment factor\nCumulative\n") 3 amount millionths amount f

-- the figures of question n about the record, none of another
unfoldable pub record_table : Bool → ℕ → Finding → List ℕ
record_table html n f =
    cond (eqb n 1) (given_table html f)
    (cond (eqb n 2) (length_table html f)
    (cond (eqb n 4) (field_table html f)
    (cond (eqb n 5) (shares_table html f) [])))

-- about the triangle and its separation
unfoldable pub triangle_table : Bool → ℕ → Finding → List ℕ
triangle_table html n f =
    cond (eqb n 6) (cumulative_table html f)
    (cond (eqb n 13) (development_table html f)
    (cond (eqb n 7) (totals_table html f)
    (cond (eqb n 8) (rest_table html f)
    (cond (eqb n 9) (running_table html f)
    (cond (eqb n 10) (level_table html f) [])))))

-- about the reserves
unfoldable pub reserve_table : Bool → ℕ → Finding → List ℕ
reserve_table html n f =
    cond (eqb n 18) (tail_table html f)
    (cond (eqb n 19) (tail_average_table html f)
    (cond (eqb n 11) (ultimate_table html f)
    (cond (eqb n 12) (total_table html f)
    (cond (eqb n 15) (latest_table html f)
    (cond (eqb n 16) (divisor_table html f)
    (cond (eqb n 17) (corrected_table html f)
    (cond (eqb n 14) (completed_table html f) [])))))))

-- the figures of question n, which is one of these
unfoldable pub finding_table : Bool → ℕ → Finding → List ℕ
finding_table html n f = record_table html n f ++ (triangle_table html n f ++ reserve_table html n f)
