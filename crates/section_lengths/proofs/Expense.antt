-- How long the section of the ULAE reserve is at most. Assumes nothing.
use mathlib.Core.Bool.{Bool, true, false}
use mathlib.Core.List.{List}
use Prim.Native.Nat.{◌≤◌}
use native.Mathlib.Omega.{arith}
use lib.IntN.{ℤ}
use lib.ListN.{length, length-append}
use Rattle.lines.proofs.Longest.{longest_from}
use Rattle.parts.proofs.Lengths.{only_most, section_end_most}
use Rattle.table_lengths.proofs.Most.{table_most}
use Rattle.expense_section.specs.Expense.{used_text, rows_shown, ratio_table, expense_section}
use Rattle.section_lengths.proofs.Tables.{picked_most}
use Rattle.section_lengths.proofs.Opened.{opened_most}

-- three rows, or seven
shown_most : (corrected : Bool) → rows_shown corrected ≤ 7
unfolding rows_shown
shown_most true = omega arith
shown_most false = omega arith

used_most : (corrected : Bool) → length (used_text corrected) ≤ 110
unfolding used_text
used_most true = omega arith
used_most false = omega arith

table_most_lem : (html corrected : Bool) (singles : List ℤ) → length (ratio_table html corrected singles) ≤ 1700
unfolding ratio_table table_most longest_from
table_most_lem html corrected singles = picked_most html _ _ _ _ singles _ _ 7 1700 (shown_most corrected) (omega arith)

pub expense_most : (html corrected : Bool) (singles : List ℤ) → length (expense_section html corrected singles) ≤ 2100
unfolding expense_section
expense_most html corrected singles =
    opened_most html _ _ _ 1821 2100
    (simp length-append
    (omega (arith, only_most html (used_text corrected), used_most corrected, table_most_lem html corrected singles, section_end_most html)))
    (omega arith)
