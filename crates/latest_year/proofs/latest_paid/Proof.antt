-- The loop's invariant: `at` is where row i starts, and `sum` is the sum of the last increments of the rows before it. Assumes nothing.
use Prim.Native.Nat.{ℕ, ◌+◌, ◌-◌, ◌≤◌}
use native.Mathlib.Omega.{arith}
use mathlib.Core.Path.{◌≡◌, refl, ap}
use mathlib.Core.List.{List}
use lib.IntN.{ℤ, pos, nat_abs, ◌+ℤ◌}
use lib.ListN.{get_or}
use mir.Syntax.{w64}
use mir.Val.{to_z, of_z}
use Rattle.rules.specs.Record.{most_amount}
use Rattle.rules.specs.Triangle.{row_start, paid_of, sum_to}
use Rattle.rules.specs.Growth.{latest_paid}
use Rattle.laws.proofs.Signed.{held}
use Rattle.laws.proofs.Adding.{sum_to_size, sum_to_read, sum_to_step, step_fits}
use Rattle.laws.proofs.TriangleRows.{row_room, row_start_more}
use Rattle.latest_year.proofs.latest_paid.Statement.{statement}
use Rattle.latest_year.proofs.latest_paid.Tie as tie

-- the last increment of row i
abbrev latest : ℕ → List ℤ → ℕ → ℤ
latest k p i = paid_of k p i (k - i)

abbrev invariant-loop : tie.invariant-loop-i
invariant-loop k increments n sum₀ at₀ i₀ sum at i = (i ≤ n) × ((at ≡ row_start k i) × (sum ≡ of_z w64 (sum_to (latest k increments) i)))

abbrev decreases-loop : tie.decreases-loop-i
decreases-loop k increments n sum₀ at₀ i₀ sum at i = n - i

-- no increment's size is above 10^10
small : (s : tie.Start invariant-loop decreases-loop) (i : ℕ) → nat_abs (latest s.args.k s.args.increments.now i) ≤ most_amount
unfolding paid_of
small s i = s.requires.1 _

add-n : tie.Need-overflow_add-n invariant-loop decreases-loop
add-n c = omega arith

loop-holds : tie.Need-loop-i-init invariant-loop decreases-loop
unfolding sum_to row_start
loop-holds c = (omega arith, (refl, refl))

-- the row's increments stand in the array
room : (c : tie.In-loop-i invariant-loop decreases-loop) → c.before.loop-i.at + (c.before.before.args.k + 1 - c.before.loop-i.i) ≤ 136
room c = rw c.before.loop-i.invariant.1.0 (row_room c.before.before.args.k c.before.loop-i.i (omega arith) (omega arith))

sub-sum : tie.Need-overflow_sub-sum invariant-loop decreases-loop
sub-sum c = omega arith

add-sum : tie.Need-overflow_add-sum invariant-loop decreases-loop
add-sum c = omega (arith, room c)

mul-sum : tie.Need-offset_bounds-increments-at invariant-loop decreases-loop
mul-sum c = omega (arith, room c)

element-copy-out-sum : tie.Need-bounds-increments-at invariant-loop decreases-loop
element-copy-out-sum c = omega (arith, room c)

add-sum-2 : tie.Need-overflow_add-sum-in-loop-i invariant-loop decreases-loop
unfolding paid_of
add-sum-2 c =
    let s = c.before.before.before in
    let l = c.before.before.loop-i in
    rw l.invariant.1.0 (step_fits (latest s.args.k s.args.increments.now) most_amount (small s) l.i l.sum-bits (omega arith) l.invariant.1.1)

sub_at : tie.Need-overflow_sub-at invariant-loop decreases-loop
sub_at c = omega arith

add_at : tie.Need-overflow_add-at invariant-loop decreases-loop
add_at c = omega (arith, room c.before)

-- one row more
sum_more : (s : tie.Start invariant-loop decreases-loop) (i at sum : ℕ) → i ≤ 15 → at ≡ row_start s.args.k i → sum ≡ of_z w64 (sum_to (latest s.args.k s.args.increments.now) i)
    → of_z w64 (to_z w64 sum +ℤ held (get_or s.args.increments.now (at + (s.args.k - i)) (pos 0))) ≡ of_z w64 (sum_to (latest s.args.k s.args.increments.now) (i + 1))
unfolding paid_of
sum_more s i at sum few e h = rw e (ap (of_z w64) (sum_to_step (latest s.args.k s.args.increments.now) most_amount (small s) i sum (omega arith) h))

add-i : tie.Need-overflow_step-i invariant-loop decreases-loop
add-i c = omega arith

loop-less : tie.Need-loop-i-smaller invariant-loop decreases-loop
loop-less c = omega arith

loop-again : tie.Need-loop-i-preserved invariant-loop decreases-loop
loop-again c =
    let s = c.before.before.before in
    let l = c.before.before.loop-i in
    (omega arith, (omega (arith, row_start_more s.args.k l.i, l.invariant.1.0), sum_more s l.i l.at l.sum-bits (omega arith) l.invariant.1.0 l.invariant.1.1))

returns : tie.Need-returns invariant-loop decreases-loop
unfolding latest_paid
returns c =
    let s = c.before.before in
    let l = c.before.loop-i in
    let e : l.i ≡ s.args.k + 1 = omega arith in
    let row = latest s.args.k s.args.increments.now in
    let is = sum_to_read row most_amount (small s) (s.args.k + 1) l.sum-bits (omega arith) (rw e at l.invariant.1.1) in
    (is, rw is (omega (arith, sum_to_size row most_amount (small s) (s.args.k + 1))))

pub latest_paid_spec : {M : Type 1} → statement M
latest_paid_spec =
    tie.close
    (tie.spec
    invariant-loop
    decreases-loop
    add-n
    loop-holds
    sub-sum
    add-sum
    mul-sum
    element-copy-out-sum
    add-sum-2
    sub_at
    add_at
    add-i
    loop-less
    loop-again
    returns)
