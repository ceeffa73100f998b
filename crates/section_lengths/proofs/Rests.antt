-- How long the section of the years of which question 8 says no is at most. Assumes nothing.
use mathlib.Core.Path.{ap}
use mathlib.Core.Bool.{Bool, false}
use mathlib.Core.List.{List, []}
use Prim.Native.Nat.{ℕ, ◌≤◌, ◌<◌}
use native.Mathlib.Omega.{arith}
use lib.IntN.{ℤ, pos}
use lib.ListN.{length, length-append, replicate, length-replicate}
use lib.Seq.{length-sets}
use Rattle.rules.specs.Lists.{padded}
use Rattle.laws.proofs.Joined.{sets_filled}
use Rattle.composing.specs.Text.{ascii}
use Rattle.lines.proofs.Longest.{longest_from, longest_most}
use Rattle.parts.proofs.Lengths.{section_start_most, section_end_most}
use Rattle.table_cells.specs.Cells.{most_places, plain, styled}
use Rattle.table_heads.specs.Heads.{rows_in}
use Rattle.table_lengths.proofs.Most.{table_most}
use Rattle.table_lengths.proofs.Tables.{table_most_lem}
use Rattle.rest_years.specs.RestYears.{refused_years, most_labels, year_labels, all_values, year_shape, year_words, year_table, year_text, year_section, rest_section}
use Rattle.rest_years.proofs.Years.{years_most, labels_most}
use Rattle.section_lengths.proofs.Proved.{paragraph_most}

module _ (html : Bool) (t v : List ℤ) (k : ℕ) (few : k < 16) where
  labels_long : length (padded most_labels 0 (year_labels t v k)) ≤ most_labels
  labels_long =
      let e = sets_filled most_labels 0 (year_labels t v k) (omega (arith, labels_most t v k few)) in
      omega (arith, ap length e, length-sets (replicate most_labels 0) 0 (year_labels t v k), length-replicate {A = ℕ} most_labels 0)

  table_long : length (year_table html t v k) ≤ 6800
  unfolding year_table table_most rows_in longest_from
  table_long =
      omega (
        arith,
        table_most_lem html false year_words (padded most_labels 0 (year_labels t v k)) [] (year_shape (length (refused_years t v k))) (padded most_places (pos 0) (all_values t v k))
            (replicate most_places (styled plain 2)) 15 3 (omega (arith, years_most t v k)) (omega arith),
        longest_most 0 (padded most_labels 0 (year_labels t v k)),
        labels_long,
      )

  section_long : length (year_section html t v k) ≤ 9000
  unfolding year_section
  section_long = simp length-append (omega (arith, section_start_most html (ascii "Every development year with nothing left"), paragraph_most html year_text, table_long, section_end_most html))

pub rest_section_most : (html : Bool) (q : List (List ℤ)) (k : ℕ) → k < 16 → length (rest_section html q k) ≤ 9000
unfolding rest_section
rest_section_most html q k few = section_long html _ _ k few
