-- The table of question n by its number. Assumes nothing.
use Prim.Native.Nat.{ℕ}
use borrow.Author.Tests.{ne_eqb}
use mathlib.Core.Path.{◌≡◌}
use mathlib.Core.Bool.{Bool}
use mathlib.Core.List.{[]}
use Rattle.finding.specs.declared.Finding.{Finding}
use Rattle.question_figures.specs.QuestionFigures.{field_table, development_table}
use Rattle.finding_table.specs.FindingTable.{given_table, length_table, shares_table, cumulative_table, totals_table, rest_table, running_table, level_table, tail_table, tail_average_table, ultimate_table, total_table, latest_table, divisor_table, corrected_table, completed_table, record_table, triangle_table, reserve_table}

module _ (html : Bool) (n : ℕ) (f : Finding) where
  pub at_1 : n ≡ 1 → given_table html f ≡ record_table html n f
  unfolding record_table
  at_1 e = rw e

  pub at_2 : n ≡ 2 → length_table html f ≡ record_table html n f
  unfolding record_table
  at_2 e = rw e

  pub at_4 : n ≡ 4 → field_table html f ≡ record_table html n f
  unfolding record_table
  at_4 e = rw e

  pub at_5 : n ≡ 5 → shares_table html f ≡ record_table html n f
  unfolding record_table
  at_5 e = rw e

  pub no_record : (n ≡ 1 → ⊥) → (n ≡ 2 → ⊥) → (n ≡ 4 → ⊥) → (n ≡ 5 → ⊥) → [] ≡ record_table html n f
  unfolding record_table
  no_record a1 a2 a4 a5 = rw (ne_eqb n 1 a1, ne_eqb n 2 a2, ne_eqb n 4 a4, ne_eqb n 5 a5)

  pub at_6 : n ≡ 6 → cumulative_table html f ≡ triangle_table html n f
  unfolding triangle_table
  at_6 e = rw e

  pub at_13 : n ≡ 13 → development_table html f ≡ triangle_table html n f
  unfolding triangle_table
  at_13 e = rw e

  pub at_7 : n ≡ 7 → totals_table html f ≡ triangle_table html n f
  unfolding triangle_table
  at_7 e = rw e

  pub at_8 : n ≡ 8 → rest_table html f ≡ triangle_table html n f
  unfolding triangle_table
  at_8 e = rw e

  pub at_9 : n ≡ 9 → running_table html f ≡ triangle_table html n f
  unfolding triangle_table
  at_9 e = rw e

  pub at_10 : n ≡ 10 → level_table html f ≡ triangle_table html n f
  unfolding triangle_table
  at_10 e = rw e

  pub no_triangle : (n ≡ 6 → ⊥) → (n ≡ 13 → ⊥) → (n ≡ 7 → ⊥) → (n ≡ 8 → ⊥) → (n ≡ 9 → ⊥) → (n ≡ 10 → ⊥) → [] ≡ triangle_table html n f
  unfolding triangle_table
  no_triangle a6 a13 a7 a8 a9 a10 = rw (ne_eqb n 6 a6, ne_eqb n 13 a13, ne_eqb n 7 a7, ne_eqb n 8 a8, ne_eqb n 9 a9, ne_eqb n 10 a10)

  pub at_18 : n ≡ 18 → tail_table html f ≡ reserve_table html n f
  unfolding reserve_table
  at_18 e = rw e

  pub at_19 : n ≡ 19 → tail_average_table html f ≡ reserve_table html n f
  unfolding reserve_table
  at_19 e = rw e

  pub at_11 : n ≡ 11 → ultimate_table html f ≡ reserve_table html n f
  unfolding reserve_table
  at_11 e = rw e

  pub at_12 : n ≡ 12 → total_table html f ≡ reserve_table html n f
  unfolding reserve_table
  at_12 e = rw e

  pub at_15 : n ≡ 15 → latest_table html f ≡ reserve_table html n f
  unfolding reserve_table
  at_15 e = rw e

  pub at_16 : n ≡ 16 → divisor_table html f ≡ reserve_table html n f
  unfolding reserve_table
  at_16 e = rw e

  pub at_17 : n ≡ 17 → corrected_table html f ≡ reserve_table html n f
  unfolding reserve_table
  at_17 e = rw e

  pub at_14 : n ≡ 14 → completed_table html f ≡ reserve_table html n f
  unfolding reserve_table
  at_14 e = rw e

  pub no_reserve : (n ≡ 18 → ⊥) → (n ≡ 19 → ⊥) → (n ≡ 11 → ⊥) → (n ≡ 12 → ⊥) → (n ≡ 15 → ⊥) → (n ≡ 16 → ⊥) → (n ≡ 17 → ⊥) → (n ≡ 14 → ⊥) → [] ≡ reserve_table html n f
  unfolding reserve_table
  no_reserve a18 a19 a11 a12 a15 a16 a17 a14 = rw (ne_eqb n 18 a18, ne_eqb n 19 a19, ne_eqb n 11 a11, ne_eqb n 12 a12, ne_eqb n 15 a15, ne_eqb n 16 a16, ne_eqb n 17 a17, ne_eqb n 14 a14)
