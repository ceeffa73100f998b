-- Columns of sections of the report's figures are within them. Assumes nothing.
use Prim.Native.Nat.{ℕ, ◌+◌, ◌*◌, ◌≤◌, ◌<◌}
use native.Mathlib.Nat.{mul-le-mul}
use native.Mathlib.Omega.{arith}
use mathlib.Core.Path.{refl}
use mathlib.Core.List.{List}
use lib.IntN.{ℤ}
use Rattle.laws.proofs.TriangleRows.{cells_most, cells_least}
use Rattle.listing.specs.Starts.{starts_of}
use Rattle.listing.proofs.Known.{known, at_starts}
use Rattle.vectors.specs.Vectors.{most_figures}
use Rattle.figure_places.specs.Places.{added_at}
use Rattle.figure_places.proofs.Known.{places_known}
use Rattle.page_figures.specs.Given.{Figured}
use Rattle.column_table.specs.ColumnTable.{year_rows, Each, Columned}

-- sections of which none starts after the last
pub record Standing (k : ℕ) : Type 0 where
  pub shares : (starts_of k).shares ≤ (added_at k).sums
  pub levels : (starts_of k).levels ≤ (added_at k).sums
  pub ahead : (starts_of k).ahead ≤ (added_at k).sums
  pub provisions : (starts_of k).provisions ≤ (added_at k).sums
  pub unreported : (starts_of k).unreported ≤ (added_at k).sums
  pub reserves : (starts_of k).reserves ≤ (added_at k).sums
  pub tails : (starts_of k).tails ≤ (added_at k).sums
  pub exposures : (added_at k).exposures ≤ (added_at k).sums
  pub indices : (added_at k).indices ≤ (added_at k).sums
  pub reporting : (added_at k).reporting ≤ (added_at k).sums
  pub ulae : (added_at k).ulae ≤ (added_at k).sums
  pub paid : (added_at k).paid ≤ (added_at k).sums
  pub running : (added_at k).running ≤ (added_at k).sums
  pub changes : (added_at k).changes ≤ (added_at k).sums
  pub expected : (added_at k).expected ≤ (added_at k).sums
  pub allowances : (added_at k).allowances ≤ (added_at k).sums
  pub margins : (added_at k).margins ≤ (added_at k).sums
  pub ladder : (added_at k).ladder ≤ (added_at k).sums
  pub remaining : (added_at k).remaining ≤ (added_at k).sums
  pub ultimates : (added_at k).ultimates ≤ (added_at k).sums
  pub differences : (added_at k).differences ≤ (added_at k).sums
  pub most : (added_at k).sums + (k + 1) ≤ most_figures

pub standing : (k : ℕ) → k < 16 → Standing k
standing k h =
    let c = cells_most k h in
    let l = cells_least k in
    let a = places_known (added_at k) k refl in
    let s = at_starts (starts_of k) k refl in
    let q = known k in
    omega arith

-- columns of n figures each, no more than a section of the years 0 to k has
pub columned : (k from n columns : ℕ) (starts decimals : List ℕ) (xs : List ℤ) → k < 16 → from ≤ 100000 → 1 ≤ n → n ≤ k + 1 → columns ≤ 12 → Figured k xs
    → Each (λ s. s + n ≤ (added_at k).sums + (k + 1)) starts → Each (λ d. d < 10) decimals → Columned (year_rows from n columns) starts decimals xs
columned k from n columns starts decimals xs h f l m c small within digits =
    let rows : n + 1 ≤ 17 = omega arith in
    let places : (n + 1) * columns ≤ 17 * 12 = mul-le-mul rows c in
    record {
      top = (added_at k).sums + (k + 1);
      top_most = (standing k h).most;
      small = small.all;
      within = within;
      digits = digits;
      fits = omega arith;
      rows_least = l;
      rows_most = omega arith;
      columns_most = c;
    }
