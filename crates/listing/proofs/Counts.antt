-- How many entries the result list has, in closed form. Assumes nothing.
use Prim.Native.Nat.{ℕ, ◌+◌, ◌-◌, ◌*◌, ◌≤◌}
use native.Mathlib.Omega.{arith}
use mathlib.Core.Path.{◌≡◌}
use Rattle.rules.specs.Lists.{total}
use Rattle.rules.specs.Record.{cells}
use Rattle.rules.specs.Results.{section_counts, result_count}
use Rattle.laws.proofs.TriangleRows.{cells_least}

-- the sections' counts summed
sum_of_counts : (k c : ℕ) → k + 1 ≤ c
    → c + (k + 1 + (k + 1 + (k + (c - (k + 1) + (k + 1 + (1 + (k + 1 + (k + 1 + (1 + (1 + (k + (c - (k + 1) + (k + 1 + 0))))))))))))) ≡ 3 * c + 6 * k + 7
sum_of_counts k c h = omega arith

pub results_count : (k : ℕ) → result_count k ≡ 3 * cells k + 6 * k + 7
unfolding result_count section_counts total
results_count k = sum_of_counts k (cells k) (omega (arith, cells_least k))
