-- Figures f that are read again: what their rows ask for, and what they fill. Assumes nothing.
use Prim.Native.Nat.{ℕ, ◌+◌, ◌<◌}
use mathlib.Core.Path.{◌≡◌}
use mathlib.Core.Bool.{true}
use mathlib.Core.List.{List}
use lib.IntN.{ℤ}
use Rattle.rules.specs.Lists.{up_to, padded}
use Rattle.rules.specs.Record.{Figures}
use Rattle.rules.specs.Triangle.{cumulatives_pass, averages_of, paid_to, TotalsIn, TotalsSoFar}
use Rattle.rules.specs.Results.{square_of, paid_in}
use Rattle.triangle.specs.Columns.{Increments, Exposures, column_sum, rows_passing}
use Rattle.reading.specs.Reading.{Sound}
use Rattle.figures_run.proofs.Before.{paid_are, sums_are, totals_are}

module _ (f : Figures) (k : ℕ) (n : List ℕ) (p : List ℤ) (ek : k ≡ f.k) (en : n ≡ f.exposures) (ep : p ≡ f.increments) where
  pub rows_ready : Sound f → (k < 16) × (Exposures k n × Increments p)
  rows_ready good = rw (ek, en, ep) (good.few, (good.exposures, good.increments))

  pub paid_filled : cumulatives_pass f.k f.increments ≡ true → (c : List ℕ) → c ≡ padded 16 0 (up_to (paid_to k p) (rows_passing k p)) → c ≡ paid_in f
  paid_filled six c e = paid_are f six c (rw (ek, ep) at e)

  pub sums_filled : cumulatives_pass f.k f.increments ≡ true → (v : List ℕ) → v ≡ up_to (column_sum k p (rows_passing k p)) 16
      → v ≡ up_to (column_sum f.k f.increments (f.k + 1)) 16
  sums_filled six v e = sums_are f six v (rw (ek, ep) at e)

  pub totals_filled : Sound f → cumulatives_pass f.k f.increments ≡ true → (v d : List ℤ) → TotalsSoFar (averages_of k n p) (rows_passing k p) 0 v d
      → TotalsIn (square_of f) v d
  totals_filled good six v d e = (totals_are f six good v d (rw (ek, en, ep) at e)).totals
