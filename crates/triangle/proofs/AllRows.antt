-- What is made of a triangle in a pass by row, once every row has passed question 6: the square of its averages, and their totals. Assumes nothing.
use Prim.Native.Nat.{ℕ, ◌<◌}
use mathlib.Core.Path.{◌≡◌, ◌∙◌}
use mathlib.Core.Bool.{true}
use mathlib.Core.List.{List}
use lib.IntN.{ℤ, pos}
use lib.ListN.{replicate}
use Rattle.rules.specs.Lists.{up_to, padded}
use Rattle.rules.specs.Triangle.{cumulatives_pass, average_row, averages_of, TotalsSoFar}
use Rattle.totals.specs.Summed.{Summed}
use Rattle.totals.proofs.Square.{zero_outside}
use Rattle.totals.proofs.SoFar.{all_passed}
use Rattle.triangle.specs.Columns.{Increments, Exposures, rows_passing}
use Rattle.triangle.proofs.Square.{cells_bounded}
use Rattle.triangle.proofs.Passed.{rows_all}

module _ (k : ℕ) (n : List ℕ) (p : List ℤ) (six : cumulatives_pass k p ≡ true) where
  pub square_all : (s : List (List ℤ)) → s ≡ padded 16 (replicate 16 (pos 0)) (up_to (average_row k n p) (rows_passing k p)) → s ≡ averages_of k n p
  unfolding averages_of
  square_all s e = e ∙ rw (rows_all k p six)

  pub totals_all : k < 16 → Exposures k n → Increments p → (v d : List ℤ) → TotalsSoFar (averages_of k n p) (rows_passing k p) 0 v d → Summed (averages_of k n p) k v d
  totals_all few claims amounts v d e =
      let outside = zero_outside k n p few in
      record { cells = cells_bounded k n p few claims amounts; outside = outside; totals = all_passed (averages_of k n p) k v d outside (rw (rows_all k p six) at e) }
