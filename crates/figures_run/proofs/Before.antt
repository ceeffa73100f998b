-- What the rows and the separation leave: the square, its totals, the column sums, the paid cumulatives and the factors of the figures. Assumes nothing.
use Prim.Native.Nat.{ℕ, ◌+◌}
use mathlib.Core.Path.{◌≡◌, ◌∙◌}
use mathlib.Core.Bool.{true}
use mathlib.Core.List.{List}
use lib.IntN.{ℤ, pos}
use lib.ListN.{replicate}
use Rattle.rules.specs.Lists.{up_to, padded}
use Rattle.rules.specs.Questions.{after_call}
use Rattle.rules.specs.Record.{Figures}
use Rattle.rules.specs.Triangle.{cumulatives_pass, average_row, averages_of, paid_to, TotalsSoFar}
use Rattle.rules.specs.Separation.{separate_answer, separated}
use Rattle.rules.specs.Results.{square_of, factors_in, paid_in}
use Rattle.rules.specs.declared.Factors.{Factors}
use Rattle.triangle.specs.Columns.{column_sum, rows_passing}
use Rattle.triangle.proofs.Passed.{rows_all}
use Rattle.triangle.proofs.AllRows.{square_all, totals_all}
use Rattle.totals.specs.Summed.{Summed}
use Rattle.reading.specs.Reading.{Sound}

module _ (f : Figures) (six : cumulatives_pass f.k f.increments ≡ true) where
  -- every row has passed question 6
  all_rows : rows_passing f.k f.increments ≡ f.k + 1
  all_rows = rows_all f.k f.increments six

  pub square_is : (s : List (List ℤ)) → s ≡ padded 16 (replicate 16 (pos 0)) (up_to (average_row f.k f.exposures f.increments) (rows_passing f.k f.increments)) → s ≡ square_of f
  unfolding square_of
  square_is = square_all f.k f.exposures f.increments six

  pub sums_are : (v : List ℕ) → v ≡ up_to (column_sum f.k f.increments (rows_passing f.k f.increments)) 16 → v ≡ up_to (column_sum f.k f.increments (f.k + 1)) 16
  sums_are v e = e ∙ rw all_rows

  pub paid_are : (c : List ℕ) → c ≡ padded 16 0 (up_to (paid_to f.k f.increments) (rows_passing f.k f.increments)) → c ≡ paid_in f
  unfolding paid_in
  paid_are c e = e ∙ rw all_rows

  -- the totals are those of the square
  pub totals_are : Sound f → (v d : List ℤ) → TotalsSoFar (averages_of f.k f.exposures f.increments) (rows_passing f.k f.increments) 0 v d → Summed (square_of f) f.k v d
  unfolding square_of
  totals_are h = totals_all f.k f.exposures f.increments six h.few h.exposures h.increments

-- the factors of an accepted separation
pub factors_are : (f : Figures) (g : Factors) → g ≡ separated (square_of f) f.k → separate_answer (square_of f) f.k ≡ 0 → g ≡ factors_in f
unfolding separated after_call factors_in
factors_are f g h a = rw (h, a)
