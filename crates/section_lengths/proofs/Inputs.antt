-- How long the section of the inputs is at most. Assumes nothing.
use mathlib.Core.Bool.{Bool}
use mathlib.Core.List.{List, []}
use Prim.Native.Nat.{ℕ, ◌≤◌, ◌<◌}
use native.Mathlib.Omega.{arith}
use lib.IntN.{ℤ}
use lib.ListN.{length, length-append}
use Rattle.composing.specs.Text.{ascii}
use Rattle.lines.proofs.Longest.{longest_from}
use Rattle.parts.proofs.Lengths.{section_start_most, section_end_most, beside_start_most, beside_end_most}
use Rattle.table_lengths.proofs.Most.{table_most}
use Rattle.input_tables.specs.Inputs.{input_table, exposure_table, reporting_table, ulae_table, index_table, input_tables}
use Rattle.single_tables.specs.Singles.{single_table}
use Rattle.input_section.specs.InputSection.{input_section}
use Rattle.section_lengths.proofs.Tables.{column_most, picked_most}
use Rattle.section_lengths.proofs.Triangles.{increment_table_most}

-- a table of one column
input_most : (html : Bool) (words total : List ℕ) (from d start k : ℕ) (xs : List ℤ) → k < 16 → table_most words [] total 17 1 ≤ 3300
    → length (input_table html words total from d start k xs) ≤ 3300
unfolding input_table
input_most html words total from d start k xs h most = column_most html words total from k 1 _ _ _ _ xs 3300 h most

module _ (html : Bool) (first k : ℕ) (xs : List ℤ) (h : k < 16) where
  exposure_most : length (exposure_table html first k xs) ≤ 3300
  unfolding exposure_table table_most longest_from
  exposure_most = input_most html _ _ _ _ _ k xs h (omega arith)

  reporting_most : length (reporting_table html k xs) ≤ 3300
  unfolding reporting_table table_most longest_from
  reporting_most = input_most html _ _ _ _ _ k xs h (omega arith)

  ulae_most : length (ulae_table html first k xs) ≤ 3300
  unfolding ulae_table table_most longest_from
  ulae_most = input_most html _ _ _ _ _ k xs h (omega arith)

  index_most : length (index_table html first k xs) ≤ 3300
  unfolding index_table table_most longest_from
  index_most = input_most html _ _ _ _ _ k xs h (omega arith)

  inputs_most : length (input_tables html first k xs) ≤ 13200
  unfolding input_tables
  inputs_most = simp length-append (omega (arith, exposure_most, reporting_most, ulae_most, index_most))

single_most : (html : Bool) (singles : List ℤ) → length (single_table html singles) ≤ 1100
unfolding single_table table_most longest_from
single_most html singles = picked_most html _ _ _ _ singles _ _ 3 1100 (omega arith) (omega arith)

pub input_section_most : (html : Bool) (first k : ℕ) (xs singles : List ℤ) → k < 16 → length (input_section html first k xs singles) ≤ 46000
unfolding input_section
input_section_most html first k xs singles h =
    simp length-append
    (omega
    (arith, section_start_most html (ascii "Inputs as given"), beside_start_most html, inputs_most html first k xs h, single_most html singles, beside_end_most html, increment_table_most html first k xs h, section_end_most html))
