-- The loop's invariant: the rows before i pass, their averages, their sums by column and their paid cumulatives are stored, the totals are theirs, and `at` is where
-- row i starts. Assumes nothing.
use mathlib.Core.Path.{◌≡◌, refl, sym, ◌∙◌}
use mathlib.Core.Bool.{true, false}
use mathlib.Core.List.{List, []}
use Prim.Native.Nat.{ℕ, ◌+◌, ◌-◌, ◌≤◌, ◌<◌}
use native.Mathlib.Omega.{arith}
use lib.IntN.{ℤ, pos}
use lib.ListN.{get_or, set, replicate}
use lib.Seq.{sets}
use Rattle.rules.specs.Lists.{up_to, below, padded, every, total}
use Rattle.rules.specs.Triangle.{row_start, paid_of, average_of, row_passes, cumulatives_pass, paid_to, average_row, averages_of, TotalsSoFar}
use Rattle.laws.proofs.Lists.{every_next, fails_at, length_up_to}
use Rattle.laws.proofs.Joined.{sets_filled}
use Rattle.laws.proofs.Padded.{filled_none, filled_more, rest_at}
use Rattle.laws.proofs.TriangleRows.{row_room, row_start_more}
use Rattle.entries.proofs.Leading.{leading_stop}
use Rattle.totals.proofs.SoFar.{none_passed}
use Rattle.triangle.specs.Columns.{column_sum, rows_passing}
use Rattle.triangle.proofs.Passed.{rows_all}
use Rattle.triangle_rows.proofs.fill_rows.Statement.{statement}
use Rattle.triangle_rows.proofs.fill_rows.Tie as tie

-- how many rows pass where row i is the first that does not
stops : (k : ℕ) (p : List ℤ) (i : ℕ) → i ≤ k → every (row_passes k p) (below i) ≡ true → row_passes k p i ≡ false → rows_passing k p ≡ i
unfolding rows_passing
stops k p i h before e = leading_stop (row_passes k p) (k + 1) i (omega arith) before e

-- the square with the rows before i, after the stores into row i
more_rows : (k : ℕ) (n : List ℕ) (p : List ℤ) (i : ℕ) → k < 16 → i < 16 → (q : List (List ℤ)) (r : List ℤ)
    → q ≡ padded 16 (replicate 16 (pos 0)) (up_to (average_row k n p) i)
    → r ≡ sets (get_or q i []) 0 (up_to (λ j. average_of (paid_of k p i j) (get_or n i 0)) (k + 1 - i))
    → set q i r ≡ padded 16 (replicate 16 (pos 0)) (up_to (average_row k n p) (i + 1))
unfolding average_row
more_rows k n p i h l q r e f =
    let was : get_or q i [] ≡ replicate 16 (pos 0) = rw e (rest_at 16 (replicate 16 (pos 0)) (average_row k n p) i i [] (omega arith) l) in
    let row : r ≡ average_row k n p i
    = f ∙ rw was (sets_filled 16 (pos 0) _ (omega (arith, length_up_to (λ j. average_of (paid_of k p i j) (get_or n i 0)) (k + 1 - i)))) in
    rw (row, e) (filled_more 16 (replicate 16 (pos 0)) (average_row k n p) i l)

abbrev invariant-loop : tie.invariant-loop-i
invariant-loop k exposures increments square₀ sums₀ paid₀ columns₀ diagonals₀ at₀ n i₀ square sums paid columns diagonals at i =
    (i ≤ n)
    × (at ≡ row_start k i)
    × (every (row_passes k increments) (below i) ≡ true)
    × (square ≡ padded 16 (replicate 16 (pos 0)) (up_to (average_row k exposures increments) i))
    × (sums ≡ up_to (column_sum k increments i) 16)
    × (paid ≡ padded 16 0 (up_to (paid_to k increments) i))
    × TotalsSoFar (averages_of k exposures increments) i 0 columns diagonals

abbrev decreases-loop : tie.decreases-loop-i
decreases-loop k exposures increments square₀ sums₀ paid₀ columns₀ diagonals₀ at₀ n i₀ square sums paid columns diagonals at i = n - i

add-n : tie.Need-overflow_add-n invariant-loop decreases-loop
add-n c = omega arith

loop-holds : tie.Need-loop-i-init invariant-loop decreases-loop
unfolding row_start up_to every column_sum total
loop-holds c =
    let s = c.before.before in
    let k = s.args.k in
    let n = s.args.exposures.now in
    let p = s.args.increments.now in (
      omega arith,
      refl,
      refl,
      s.requires.1.1.1.0 ∙ filled_none 16 (replicate 16 (pos 0)) (average_row k n p),
      s.requires.1.1.1.1.0,
      s.requires.1.1.1.1.1 ∙ filled_none 16 0 (paid_to k p),
      none_passed (averages_of k n p),
    )

row-passes-requires : tie.Need-row_passes-requires invariant-loop decreases-loop
row-passes-requires c κs =
    let s = c.before.before.before.before in
    (s.requires.1.1.0, (omega arith, (omega arith, c.before.loop-i.invariant.1)))

returns : tie.Need-returns-then-not-row_passes invariant-loop decreases-loop
unfolding cumulatives_pass
returns c =
    let t = c.before in
    let s = t.before.before.before.before.before in
    let l = t.before.before.loop-i in
    let failed = sym t.row_passes.ensures ∙ c.if-not-row_passes.true in
    let rows = stops s.args.k s.args.increments.now l.i (omega arith) l.invariant.2 failed in (
      sym (fails_at (row_passes s.args.k s.args.increments.now) (λ (j : ℕ). j) (s.args.k + 1) l.i (omega arith) failed),
      (rw rows l.invariant.3, (rw rows l.invariant.4, (rw rows l.invariant.5, rw rows l.invariant.6))),
    )

-- row i passes where the loop goes on
passed : (c : tie.Else-not-row_passes invariant-loop decreases-loop) → row_passes c.before.before.before.before.before.before.args.k c.before.before.before.before.before.before.args.increments.now c.before.before.before.loop-i.i ≡ true
passed c = sym c.before.row_passes.ensures ∙ c.if-not-row_passes.false

mul-fill-row : tie.Need-offset_bounds-square-i invariant-loop decreases-loop
mul-fill-row c = omega arith

index-1-fill-row : tie.Need-bounds-square-i invariant-loop decreases-loop
index-1-fill-row c = omega arith

fill-row-requires : tie.Need-fill_row-requires invariant-loop decreases-loop
fill-row-requires c κs =
    let e = c.before.before.before.before in
    let s = e.before.before.before.before.before.before in
    let l = e.before.before.before.loop-i in
    let passing = every_next (row_passes s.args.k s.args.increments.now) (λ (j : ℕ). j) l.i l.invariant.2 (passed e) in
    (s.requires.1.1.0, (omega arith, (omega arith, (l.invariant.1, (s.requires.1.0, (passing, (l.invariant.4, l.invariant.6)))))))

mul-paid : tie.Need-offset_bounds-paid-i invariant-loop decreases-loop
mul-paid c = omega arith

element-write-paid : tie.Need-bounds-paid-i invariant-loop decreases-loop
element-write-paid c = omega arith

sub_at : tie.Need-overflow_sub-at invariant-loop decreases-loop
sub_at c = omega arith

add_at : tie.Need-overflow_add-at invariant-loop decreases-loop
add_at c =
    let e = c.before.before.before.before.before.before.before.before.before in
    let l = e.loop-i in
    omega (arith, l.invariant.1, row_room e.before.before.before.args.k l.i (omega arith) (omega arith))

add-i : tie.Need-overflow_step-i invariant-loop decreases-loop
add-i c = omega arith

loop-less : tie.Need-loop-i-smaller invariant-loop decreases-loop
loop-less c = omega arith

loop-again : tie.Need-loop-i-preserved invariant-loop decreases-loop
loop-again c =
    let e = c.before.before.before.before.before.before in
    let s = e.before.before.before.before.before.before in
    let l = e.before.before.before.loop-i in
    let k = s.args.k in
    let n = s.args.exposures.now in
    let p = s.args.increments.now in (
      omega arith,
      rw l.invariant.1 (sym (row_start_more k l.i)),
      every_next (row_passes k p) (λ (j : ℕ). j) l.i l.invariant.2 (passed e),
      more_rows k n p l.i (omega arith) (omega arith) l.square _ l.invariant.3 c.before.fill_row.ensures.1.0,
      c.before.fill_row.ensures.1.1.0,
      rw (c.before.fill_row.ensures.0, l.invariant.5) (filled_more 16 0 (paid_to k p) l.i (omega arith)),
      c.before.fill_row.ensures.1.1.1,
    )

returns-2 : tie.Need-returns invariant-loop decreases-loop
unfolding cumulatives_pass
returns-2 c =
    let s = c.before.before.before.before in
    let l = c.before.loop-i in
    let all : l.i ≡ s.args.k + 1 = omega arith in
    let pass : every (row_passes s.args.k s.args.increments.now) (below (s.args.k + 1)) ≡ true = rw all at l.invariant.2 in
    let rows = rows_all s.args.k s.args.increments.now pass in
    (sym pass, (rw (rows, ← all) l.invariant.3, (rw (rows, ← all) l.invariant.4, (rw (rows, ← all) l.invariant.5, rw (rows, ← all) l.invariant.6))))

pub fill_rows_spec : {M : Type 1} → statement M
fill_rows_spec =
    tie.close
    (tie.spec
    invariant-loop
    decreases-loop
    add-n
    loop-holds
    row-passes-requires
    returns
    mul-fill-row
    index-1-fill-row
    fill-row-requires
    mul-paid
    element-write-paid
    sub_at
    add_at
    add-i
    loop-less
    loop-again
    returns-2)
