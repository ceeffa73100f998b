-- The loop's invariant: `sum` is the sum of the first j increments of the row, the first j averages are stored and are the cells of the row that the totals have,
-- and the first j cumulatives are added to the sums of their columns. Assumes nothing.
use borrow.Author.Rules.{sfits_of}
use mathlib.Core.Path.{◌≡◌, refl, ap, ◌∙◌}
use mathlib.Core.Bool.{true}
use Prim.Native.Nat.{ℕ, ◌+◌, ◌-◌, ◌≤◌, ◌<◌}
use native.Mathlib.Omega.{arith}
use lib.IntN.{ℤ, pos, nat_abs, ◌+ℤ◌}
use lib.ListN.{get_or}
use lib.Seq.{sets}
use mir.Syntax.{w64}
use mir.Val.{to_z, of_z}
use mir.Facts.{to_z-of_z}
use Rattle.rules.specs.Lists.{up_to}
use Rattle.rules.specs.Triangle.{paid_of, sum_to, cumulative_of, most_cumulative, row_passes, given_cumulative, paid_to, average_of, averages_of, cell_of, TotalsSoFar}
use Rattle.laws.proofs.Lists.{get_d_up_to, every_up_to}
use Rattle.laws.proofs.Joined.{first_more}
use Rattle.laws.proofs.TriangleRows.{row_room}
use Rattle.laws.proofs.Signed.{held}
use Rattle.totals.proofs.Square.{cell_inside, zero_outside}
use Rattle.totals.proofs.SoFar.{row_end, totals_small}
use Rattle.triangle.specs.Columns.{column_sum}
use Rattle.row_averages.proofs.Added.{mixed, mixed_after, mixed_none, mixed_more, mixed_all}
use Rattle.triangle.proofs.Cumulatives.{increment_most, increment_read, more_fits, more_is, more_read, last_read, cell_is, cell_most_lem, column_most, sum_given, sum_past}
use Rattle.triangle.proofs.Square.{cells_bounded}
use Rattle.row_averages.proofs.fill_row.Statement.{statement}
use Rattle.row_averages.proofs.fill_row.Tie as tie

abbrev invariant-loop : tie.invariant-loop-j
invariant-loop row₀ sums₀ columns₀ diagonals₀ increments exposures k i at claims sum₀ cells j₀ row sums columns diagonals sum j =
    (j ≤ cells)
    × (sum ≡ of_z w64 (sum_to (paid_of k increments i) j))
    × (row ≡ sets row₀ 0 (up_to (λ r. average_of (paid_of k increments i r) (get_or exposures i 0)) j))
    × (sums ≡ up_to (mixed (column_sum k increments i) (column_sum k increments (i + 1)) j) 16)
    × TotalsSoFar (averages_of k exposures increments) i j columns diagonals

abbrev decreases-loop : tie.decreases-loop-j
decreases-loop row₀ sums₀ columns₀ diagonals₀ increments exposures k i at claims sum₀ cells j₀ row sums columns diagonals sum j = cells - j

-- the row's increments stand in the array, and the row passes
room : (s : tie.Start invariant-loop decreases-loop) → s.args.at + (s.args.k + 1 - s.args.i) ≤ 136
room s = rw s.requires.1.1.1.0 (row_room s.args.k s.args.i (omega arith) (omega arith))

passes : (s : tie.Start invariant-loop decreases-loop) → row_passes s.args.k s.args.increments.now s.args.i ≡ true
passes s = every_up_to (row_passes s.args.k s.args.increments.now) (λ (r : ℕ). r) (s.args.i + 1) s.args.i s.requires.1.1.1.1.1.0 (omega arith)

loop-holds : tie.Need-loop-j-init invariant-loop decreases-loop
unfolding sum_to up_to
loop-holds c =
    let s = c.before.before in
    (omega arith, refl, refl, s.requires.1.1.1.1.1.1.0 ∙ mixed_none (column_sum s.args.k s.args.increments.now s.args.i) (column_sum s.args.k s.args.increments.now (s.args.i + 1)) 16, s.requires.1.1.1.1.1.1.1)

add-x : tie.Need-overflow_add-x invariant-loop decreases-loop
add-x c = omega (arith, room c.before.before.before.before)

mul-x : tie.Need-offset_bounds-increments-at invariant-loop decreases-loop
mul-x c = omega (arith, room c.before.before.before.before)

element-copy-out-x : tie.Need-bounds-increments-at invariant-loop decreases-loop
element-copy-out-x c = omega (arith, room c.before.before.before.before)

add-sum : tie.Need-overflow_add-sum invariant-loop decreases-loop
add-sum c =
    let s = c.before.before.before.before.before in
    let l = c.before.before.loop-j in
    more_fits s.args.k s.args.increments.now s.args.i s.requires.0 s.args.at s.requires.1.1.1.0 l.j l.sum-bits (omega arith) l.invariant.1

add-average-requires : tie.Need-add_average-requires invariant-loop decreases-loop
add-average-requires c κs =
    let l = c.before.before.before.before.loop-j in
    let s = c.before.before.before.before.before.before.before in
    let k = s.args.k in
    let n = s.args.exposures.now in
    let p = s.args.increments.now in
    let i = s.args.i in (
      (
        rw (increment_read k p i s.requires.0 s.args.at l.j s.requires.1.1.1.0) (increment_most k p i s.requires.0 l.j),
        s.requires.1.1.1.1.0 _ (omega arith),
      ),
      (omega arith, totals_small (averages_of k n p) (cells_bounded k n p s.requires.1.0 s.requires.1.1.1.1.0 s.requires.0) i l.j _ _ l.invariant.4),
    )

-- the cumulative with one increment more: what the code holds of it, and that it is a whole number
abbrev sum : tie.After-add_average invariant-loop decreases-loop → ℤ
sum c = let s = c.before.before.before.before.before.before.before.before in cumulative_of s.args.k s.args.increments.now s.args.i c.before.before.before.before.before.loop-j.j

abbrev number : tie.After-add_average invariant-loop decreases-loop → ℕ
number c = let s = c.before.before.before.before.before.before.before.before in given_cumulative s.args.k s.args.increments.now s.args.i c.before.before.before.before.before.loop-j.j

sum_read : (c : tie.After-add_average invariant-loop decreases-loop)
    → held (to_z w64 c.before.before.before.before.before.loop-j.sum-bits +ℤ held (get_or c.before.before.before.before.before.before.before.before.args.increments.now (c.before.before.before.before.before.before.before.before.args.at + c.before.before.before.before.before.loop-j.j) (pos 0)))
    ≡ sum c
sum_read c =
    let s = c.before.before.before.before.before.before.before.before in
    let l = c.before.before.before.before.before.loop-j in
    more_read s.args.k s.args.increments.now s.args.i s.requires.0 s.args.at s.requires.1.1.1.0 l.j l.sum-bits (omega arith) l.invariant.1

given : (c : tie.After-add_average invariant-loop decreases-loop) → (sum c ≡ pos (number c)) × (number c ≤ most_cumulative)
given c =
    let s = c.before.before.before.before.before.before.before.before in
    let j = c.before.before.before.before.before.loop-j.j in (
      cell_is s.args.k s.args.increments.now s.args.i (passes s) j (omega arith),
      cell_most_lem s.args.k s.args.increments.now s.args.i (passes s) j (omega arith),
    )

cast-sums : tie.Need-overflow_cast-sums invariant-loop decreases-loop
cast-sums c = rw (sum_read c, (given c).0) (tt, record { fits = omega (arith, (given c).1) })

-- what the sum of column j was
was : (l : tie.At-loop-j invariant-loop decreases-loop) → l.loop-j.j < 16 → get_or l.loop-j.sums l.loop-j.j 0 ≡ column_sum l.before.before.before.args.k l.before.before.before.args.increments.now l.before.before.before.args.i l.loop-j.j
was l h =
    let s = l.before.before.before in
    let old = column_sum s.args.k s.args.increments.now s.args.i in
    let new = column_sum s.args.k s.args.increments.now (s.args.i + 1) in
    let j = l.loop-j.j in
    rw l.loop-j.invariant.3 (get_d_up_to (mixed old new j) 16 j 0 h ∙ mixed_after old new j j (omega arith))

add-sums : tie.Need-overflow_add-sums invariant-loop decreases-loop
add-sums c =
    let t = c.before.before in
    let s = t.before.before.before.before.before.before.before.before in
    let j = t.before.before.before.before.before.loop-j.j in
    let most = column_most s.args.k s.args.increments.now (s.args.i + 1) j s.requires.1.1.1.1.1.0 in
    let more = sum_given s.args.k s.args.increments.now s.args.i j (omega arith) in
    rw (sum_read t, (given t).0, was t.before.before.before.before.before (omega arith)) (record { fits = omega (arith, most, more) })

loop-again : tie.Need-loop-j-preserved invariant-loop decreases-loop
unfolding given_cumulative
loop-again c =
    let t = c.before.before in
    let s = t.before.before.before.before.before.before.before.before in
    let l = t.before.before.before.before.before.loop-j in
    let k = s.args.k in
    let n = s.args.exposures.now in
    let p = s.args.increments.now in
    let i = s.args.i in
    let kept = to_z-of_z {w = w64} {z = t.add_average.result} (sfits_of t.add_average.type_inv) in
    let read = increment_read k p i s.requires.0 s.args.at l.j s.requires.1.1.1.0 in
    let value : get_or l.sums l.j 0 + nat_abs (sum t) ≡ column_sum k p (i + 1) l.j = rw (was t.before.before.before.before.before (omega arith)) (sum_given k p i l.j (omega arith)) in
    let cell : cell_of (averages_of k n p) i l.j ≡ average_of (held (get_or p (s.args.at + l.j) (pos 0))) (get_or n i 0)
    = rw read (cell_inside k n p i l.j (omega arith) s.requires.1.0) in (
      omega arith,
      more_is k p i s.requires.0 s.args.at s.requires.1.1.1.0 l.j l.sum-bits (omega arith) l.invariant.1,
      rw (kept, t.add_average.ensures.0, read, l.invariant.2) (first_more (λ r. average_of (paid_of k p i r) (get_or n i 0)) s.args.row.now l.j),
      rw (sum_read t, value, l.invariant.3) (mixed_more (column_sum k p i) (column_sum k p (i + 1)) 16 l.j (omega arith)),
      t.add_average.ensures.1 (averages_of k n p) cell l.invariant.4,
    )

-- the whole sum is the last cumulative
last : (c : tie.After-loop-j invariant-loop decreases-loop) → to_z w64 c.before.loop-j.sum-bits ≡ cumulative_of c.before.before.before.before.args.k c.before.before.before.before.args.increments.now c.before.before.before.before.args.i (c.before.before.before.before.args.k - c.before.before.before.before.args.i)
last c =
    let s = c.before.before.before.before in
    let l = c.before.loop-j in
    let e : l.j ≡ s.args.k + 1 - s.args.i = omega arith in
    last_read s.args.k s.args.increments.now s.args.i s.requires.0 l.sum-bits (omega arith) (omega arith) (rw e at l.invariant.1)

cast-result : tie.Need-overflow_cast-result invariant-loop decreases-loop
cast-result c =
    let s = c.before.before.before.before in
    rw (last c, cell_is s.args.k s.args.increments.now s.args.i (passes s) (s.args.k - s.args.i) (omega arith))
    (tt, record { fits = omega (arith, cell_most_lem s.args.k s.args.increments.now s.args.i (passes s) (s.args.k - s.args.i) (omega arith)) })

returns : tie.Need-returns invariant-loop decreases-loop
unfolding paid_to given_cumulative
returns c =
    let s = c.before.before.before.before in
    let l = c.before.loop-j in
    let k = s.args.k in
    let n = s.args.exposures.now in
    let p = s.args.increments.now in
    let i = s.args.i in
    let e : l.j ≡ k + 1 - i = omega arith in
    let all = mixed_all (column_sum k p i) (column_sum k p (i + 1)) 16 l.j (λ d h m. sum_past k p i d (omega arith)) in
    let totals : TotalsSoFar (averages_of k n p) (i + 1) 0 l.columns l.diagonals = rw (e, row_end (averages_of k n p) k (zero_outside k n p s.requires.1.0) i) at l.invariant.4 in
    (ap nat_abs (last c), (rw e at l.invariant.2, (l.invariant.3 ∙ all, totals)))

pub fill_row_spec : {M : Type 1} → statement M
fill_row_spec =
    tie.close
    (tie.spec
    invariant-loop
    decreases-loop
    (λ c. omega arith)
    (λ c. omega arith)
    (λ c. omega arith)
    (λ c. omega arith)
    loop-holds
    add-x
    mul-x
    element-copy-out-x
    add-sum
    add-average-requires
    (λ c. omega arith)
    (λ c. omega arith)
    cast-sums
    (λ c. omega arith)
    (λ c. omega arith)
    add-sums
    (λ c. omega arith)
    (λ c. omega arith)
    (λ c. omega arith)
    loop-again
    cast-result
    returns)
