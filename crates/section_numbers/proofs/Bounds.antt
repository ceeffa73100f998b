-- How large the single numbers of a section are at most. Assumes nothing.
use Prim.Native.Nat.{ℕ, ◌+◌, ◌*◌, ◌≤◌}
use native.Mathlib.Omega.{arith}
use mathlib.Core.Bool.{Bool, true, false, cond}
use mathlib.Core.List.{List}
use Rattle.shading.specs.Shading.{is_lost, largest_size}
use lib.IntN.{ℤ, nat_abs}
use Rattle.laws.proofs.Totals.{total_each}
use Rattle.signed_sums.specs.Small.{most_figure}
use Rattle.signed_sums.proofs.Adding.{sum_size_lem}
use Rattle.table_cells.proofs.Cells.{largest_most}
use Rattle.vectors.specs.Vectors.{figure_at}
use Rattle.section_numbers.specs.Numbers.{sum_of, sizes_of, lost_one, lost_of, Spans}

pub sum_most : (start n : ℕ) (xs : List ℤ) → Spans start n xs → nat_abs (sum_of start n xs) ≤ n * most_figure
unfolding sum_of
sum_most start n xs s = sum_size_lem (λ i. figure_at xs (start + i)) most_figure n s.small n (omega arith)

pub size_most : (start n : ℕ) (xs : List ℤ) → Spans start n xs → largest_size start n xs ≤ most_figure
unfolding largest_size
size_most start n xs s = largest_most (λ i. nat_abs (figure_at xs (start + i))) most_figure n s.small

pub sizes_most : (start n : ℕ) (xs : List ℤ) → Spans start n xs → sizes_of start n xs ≤ n * most_figure
unfolding sizes_of
sizes_most start n xs s = total_each (λ i. nat_abs (figure_at xs (start + i))) most_figure n s.small

lost_one_lem : (p s : ℤ) → lost_one p s ≤ 1
unfolding lost_one
lost_one_lem p s = go (is_lost p s)
  where
    go : (b : Bool) → cond b 1 0 ≤ 1
    go true = omega arith
    go false = omega arith

pub lost_most : (payments averages n : ℕ) (xs : List ℤ) → lost_of payments averages n xs ≤ n * 1
unfolding lost_of
lost_most payments averages n xs =
    total_each (λ i. lost_one (figure_at xs (payments + i)) (figure_at xs (averages + i))) 1 n (λ i h. lost_one_lem (figure_at xs (payments + i)) (figure_at xs (averages + i)))
