-- The loop's invariant: the gaps of the first m rows are stored, `sum` is the sum of their sizes, and `start` is where row m + 1 starts. Assumes nothing.
use borrow.Author.Rules.{rules, sfits_of}
use mathlib.Core.Path.{◌≡◌, refl, sym, ap, ◌∙◌}
use mathlib.Core.List.{List, map}
use Prim.Native.Nat.{ℕ, ◌+◌, ◌-◌, ◌*◌, ◌≤◌, ◌<◌}
use native.Mathlib.Numerals.{add-one}
use native.Mathlib.Omega.{arith}
use lib.IntN.{ℤ, pos, nat_abs}
use lib.ListN.{length, set}
use lib.Seq.{sets, length-sets}
use mir.Syntax.{w64}
use mir.Facts.{to_z-of_z}
use Rattle.rules.specs.Lists.{total, up_to}
use Rattle.rules.specs.Triangle.{row_start}
use Rattle.laws.proofs.Lists.{map_up_to}
use Rattle.laws.proofs.Signed.{held}
use Rattle.laws.proofs.Totals.{total_more}
use Rattle.laws.proofs.Joined.{sets_more}
use Rattle.laws.proofs.TriangleRows.{row_room, row_start_more}
use Rattle.triangle.proofs.Cumulatives.{increment_most, increment_read}
use Rattle.hindsight_gaps.specs.Fitted.{most_gap, gap_with}
use Rattle.hindsight_gaps.proofs.put_gaps.Statement.{statement}
use Rattle.hindsight_gaps.proofs.put_gaps.Tie as tie

-- the gap of row m + 1
abbrev gap : ℕ → List ℕ → List ℤ → List ℕ → ℕ → ℕ → ℕ → ℤ
gap k n p r l h m = gap_with k n p r l h (m + 1)

abbrev invariant-loop : tie.invariant-loop-m
invariant-loop out₀ at k h level exposures increments shares sum₀ start₀ m₀ out sum start m =
    (m ≤ h)
    × (start ≡ row_start k (m + 1))
    × (sum ≤ m * most_gap)
    × (sum ≡ total (up_to (λ c. nat_abs (gap k exposures increments shares level h c)) m))
    × (out ≡ sets out₀ at (up_to (gap k exposures increments shares level h) m))
    × (length out ≡ length out₀)

abbrev decreases-loop : tie.decreases-loop-m
decreases-loop out₀ at k h level exposures increments shares sum₀ start₀ m₀ out sum start m = h - m

add_start : tie.Need-overflow_add-start invariant-loop decreases-loop
add_start c = omega (arith, c.requires.0.0.few)

loop-holds : tie.Need-loop-m-init invariant-loop decreases-loop
unfolding up_to total row_start
loop-holds c = (omega arith, omega arith, omega arith, refl, refl, refl)

add-i : tie.Need-overflow_add-i invariant-loop decreases-loop
add-i c = search rules

sub-j : tie.Need-overflow_sub-j invariant-loop decreases-loop
sub-j c = search rules

-- the cell of row m + 1 in payment year h + 1 is one of the record's
inside : (c : tie.In-loop-m invariant-loop decreases-loop) → c.before.loop-m.start + (c.before.before.args.h - c.before.loop-m.m) < 136
inside c =
    let s = c.before.before in
    let l = c.before.loop-m in
    omega (arith, l.invariant.1, s.requires.0.1.0, row_room s.args.k (l.m + 1) s.requires.0.0.few (omega (arith, s.requires.0.1.0)))

add-gap-of : tie.Need-overflow_add-start-in-loop-m invariant-loop decreases-loop
add-gap-of c = omega (arith, inside c)

mul-gap-of : tie.Need-offset_bounds-increments-start invariant-loop decreases-loop
mul-gap-of c = omega (arith, inside c)

element-copy-out-gap-of : tie.Need-bounds-increments-start invariant-loop decreases-loop
element-copy-out-gap-of c = inside c

mul-gap-of-2 : tie.Need-offset_bounds-exposures-i invariant-loop decreases-loop
mul-gap-of-2 c = omega (arith, c.before.before.before.requires.0.0.few, c.before.before.before.requires.0.1.0)

element-copy-out-gap-of-2 : tie.Need-bounds-exposures-i invariant-loop decreases-loop
element-copy-out-gap-of-2 c = omega (arith, c.before.before.before.before.requires.0.0.few, c.before.before.before.before.requires.0.1.0)

mul-gap-of-3 : tie.Need-offset_bounds-shares-j invariant-loop decreases-loop
mul-gap-of-3 c = omega (arith, c.before.before.before.before.before.requires.0.0.few, c.before.before.before.before.before.requires.0.1.0)

element-copy-out-gap-of-3 : tie.Need-bounds-shares-j invariant-loop decreases-loop
element-copy-out-gap-of-3 c = omega (arith, c.before.before.before.before.before.before.requires.0.0.few, c.before.before.before.before.before.before.requires.0.1.0)

gap-of-requires : tie.Need-gap_of-gap-requires invariant-loop decreases-loop
gap-of-requires c κs =
    let s = c.before.before.before.before.before.before.before in
    let l = c.before.before.before.before.before.before.loop-m in
    let known = s.requires.0.0 in
    let read = increment_read s.args.k s.args.increments.now (l.m + 1) known.increments l.start (s.args.h - l.m) l.invariant.1 in (
      rw read (increment_most s.args.k s.args.increments.now (l.m + 1) known.increments (s.args.h - l.m)),
      ((known.exposures (l.m + 1) (omega (arith, s.requires.0.1.0))).1, (s.requires.1.1 (s.args.h - l.m), s.requires.1.0)),
    )

add-gap : tie.Need-overflow_add-gap invariant-loop decreases-loop
add-gap c = search rules

mul-gap : tie.Need-offset_bounds-out-at invariant-loop decreases-loop
mul-gap c = search rules

slice-set-from-gap : tie.Need-bounds-out-at invariant-loop decreases-loop
slice-set-from-gap c = search rules

size-of-requires : tie.Need-size_of-sum-requires invariant-loop decreases-loop
size-of-requires c κs = search rules

-- the gap as it is stored, and its size
kept : (c : tie.After-gap_of-gap invariant-loop decreases-loop) → held c.gap_of-gap.result ≡ c.gap_of-gap.result
kept c = to_z-of_z {w = w64} {z = c.gap_of-gap.result} (sfits_of c.gap_of-gap.type_inv)

gap_is : (c : tie.After-gap_of-gap invariant-loop decreases-loop) →
    let s = c.before.before.before.before.before.before.before.before in
    let l = c.before.before.before.before.before.before.before.loop-m in
    c.gap_of-gap.result ≡ gap s.args.k s.args.exposures.now s.args.increments.now s.args.shares.now s.args.level s.args.h l.m
unfolding gap_with
gap_is c =
    let s = c.before.before.before.before.before.before.before.before in
    let l = c.before.before.before.before.before.before.before.loop-m in
    let read = increment_read s.args.k s.args.increments.now (l.m + 1) s.requires.0.0.increments l.start (s.args.h - l.m) l.invariant.1 in
    let year : s.args.h + 1 - (l.m + 1) ≡ s.args.h - l.m = omega arith in
    rw (year, ← read) c.gap_of-gap.ensures.0

size-of-gap : (c : tie.After-size_of-sum invariant-loop decreases-loop) → c.size_of-sum.result ≤ most_gap
size-of-gap c = rw (c.size_of-sum.ensures, kept c.before) c.before.gap_of-gap.ensures.1

add-sum : tie.Need-overflow_add-sum invariant-loop decreases-loop
add-sum c =
    let s = c.before.before.before.before.before.before.before.before.before in
    let l = c.before.before.before.before.before.before.before.before.loop-m in
    omega (arith, size-of-gap c, l.invariant.2, s.requires.0.1.0, s.requires.0.0.few)

sub-start : tie.Need-overflow_sub-start invariant-loop decreases-loop
sub-start c = omega (arith, c.before.before.before.before.before.before.before.before.before.requires.0.1.0)

add-start-2 : tie.Need-overflow_add-start-in-loop-m-2 invariant-loop decreases-loop
add-start-2 c =
    let s = c.before.before.before.before.before.before.before.before.before in
    let l = c.before.before.before.before.before.before.before.before.loop-m in
    omega (arith, l.invariant.1, s.requires.0.1.0, row_room s.args.k (l.m + 1) s.requires.0.0.few (omega (arith, s.requires.0.1.0)))

add-m : tie.Need-overflow_step-m invariant-loop decreases-loop
add-m c = search rules

loop-less : tie.Need-loop-m-smaller invariant-loop decreases-loop
loop-less c = search rules

loop-again : tie.Need-loop-m-preserved invariant-loop decreases-loop
loop-again c =
    let s = c.before.before.before.before.before.before.before.before.before in
    let l = c.before.before.before.before.before.before.before.before.loop-m in
    let k = s.args.k in
    let f = gap k s.args.exposures.now s.args.increments.now s.args.shares.now s.args.level s.args.h in
    let row : k + 1 - (l.m + 1) ≡ k - l.m = omega arith in
    let size : c.size_of-sum.result ≡ nat_abs (f l.m) = rw (c.size_of-sum.ensures, kept c.before) (ap nat_abs (gap_is c.before)) in
    let stored : set l.out (s.args.at + l.m) (held c.before.gap_of-gap.result) ≡ sets s.args.out.now s.args.at (up_to f (l.m + 1))
    = rw (kept c.before, gap_is c.before, l.invariant.4) (sets_more f s.args.out.now s.args.at l.m) in (
      omega arith,
      rw (row_start_more k (l.m + 1), row, l.invariant.1),
      omega (arith, size-of-gap c, l.invariant.2),
      rw (add-one l.m) (omega (arith, size, l.invariant.3, total_more (λ d. nat_abs (f d)) l.m)),
      stored,
      ap length stored ∙ simp length-sets,
    )

same_length : tie.Need-shape_of-out invariant-loop decreases-loop
same_length c = search rules

returns : tie.Need-returns invariant-loop decreases-loop
returns c =
    let s = c.before.before in
    let l = c.before.loop-m in
    let e : l.m ≡ s.args.h = omega arith in
    let f = gap s.args.k s.args.exposures.now s.args.increments.now s.args.shares.now s.args.level s.args.h in
    (rw e at l.invariant.3 ∙ ap total (sym (map_up_to nat_abs f s.args.h)), (rw e at l.invariant.2, rw e at l.invariant.4))

pub put_gaps_spec : {M : Type 1} → statement M
put_gaps_spec =
    tie.close
    (tie.spec
    invariant-loop
    decreases-loop
    add_start
    loop-holds
    add-i
    sub-j
    add-gap-of
    mul-gap-of
    element-copy-out-gap-of
    mul-gap-of-2
    element-copy-out-gap-of-2
    mul-gap-of-3
    element-copy-out-gap-of-3
    gap-of-requires
    add-gap
    mul-gap
    slice-set-from-gap
    size-of-requires
    add-sum
    sub-start
    add-start-2
    add-m
    loop-less
    loop-again
    same_length
    returns)
