-- The loop's invariant: `at` is where row i starts, and the rows before i pass question 6. Assumes nothing.
use mir.Syntax.{w64}
use mathlib.Core.Path.{◌≡◌, refl, ◌∙◌}
use mathlib.Core.Bool.{true}
use native.Mathlib.Omega.{arith}
use Prim.Native.Nat.{◌+◌, ◌-◌, ◌≤◌}
use mir.Facts.{to_z-of_z}
use borrow.Author.Rules.{sfits_of}
use Rattle.rules.specs.Lists.{up_to, below, every}
use Rattle.rules.specs.Triangle.{row_start, row_passes, cumulatives_pass}
use Rattle.laws.proofs.Lists.{every_next}
use Rattle.laws.proofs.TriangleRows.{row_room, row_start_more}
use Rattle.reasons.proofs.Counted.{no_both}
use Rattle.cumulative_findings.proofs.Cumulatives.{row_whole, cumulative_stop}
use Rattle.cumulative_findings.proofs.cumulative_found.Statement.{statement}
use Rattle.cumulative_findings.proofs.cumulative_found.Tie as tie

abbrev invariant-loop : tie.invariant-loop-i
invariant-loop increments k at₀ n i₀ at i = (i ≤ n) × ((at ≡ row_start k i) × (every (row_passes k increments) (below i) ≡ true))

abbrev decreases-loop : tie.decreases-loop-i
decreases-loop increments k at₀ n i₀ at i = n - i

add-n : tie.Need-overflow_add-n invariant-loop decreases-loop
add-n c = omega arith

loop-holds : tie.Need-loop-i-init invariant-loop decreases-loop
unfolding row_start up_to every
loop-holds c = (omega arith, (refl, refl))

first-outside-requires : tie.Need-first_outside-first-requires invariant-loop decreases-loop
first-outside-requires c κs =
    let s = c.before.before in
    (s.requires.0, (s.requires.1.0, (omega arith, c.before.loop-i.invariant.1.0)))

sub-if1 : tie.Need-overflow_sub-n invariant-loop decreases-loop
sub-if1 c = omega arith

returns : tie.Need-returns-then-first-n invariant-loop decreases-loop
returns c =
    let found = c.before.before.before.first_outside-first in
    let l = c.before.before.before.before.before.loop-i in
    let s = c.before.before.before.before.before.before in
    let amount = to_z-of_z {w = w64} (sfits_of c.struct_told-1.given.1.0.1) ∙ found.ensures.1 c.before.if-first-n.true in (
      cumulative_stop s.args.k s.args.increments.now l.i found.result.column (omega arith) l.invariant.1.1 found.ensures.0 c.before.if-first-n.true _ amount,
      (omega arith, omega arith),
    )

sub_at : tie.Need-overflow_sub-at invariant-loop decreases-loop
sub_at c = omega arith

add_at : tie.Need-overflow_add-at invariant-loop decreases-loop
add_at c =
    let s = c.before.before.before.before.before in
    let l = c.before.before.before.before.loop-i in
    let room = row_room s.args.k l.i s.requires.1.0 (omega arith) in
    record { fits = omega (arith, room, l.invariant.1.0) }

add-i : tie.Need-overflow_step-i invariant-loop decreases-loop
add-i c = omega arith

loop-less : tie.Need-loop-i-smaller invariant-loop decreases-loop
loop-less c = omega arith

loop-again : tie.Need-loop-i-preserved invariant-loop decreases-loop
loop-again c =
    let s = c.before.before.before.before.before in
    let l = c.before.before.before.before.loop-i in
    let found = c.before.before.first_outside-first in
    let k = s.args.k in
    let whole = row_whole k s.args.increments.now l.i (omega (arith, found.ensures.0, c.if-first-n.false)) in
    (omega arith, (omega (arith, l.invariant.1.0, row_start_more k l.i), every_next (row_passes k s.args.increments.now) (λ i. i) l.i l.invariant.1.1 whole))

returns-2 : tie.Need-returns invariant-loop decreases-loop
unfolding cumulatives_pass
returns-2 c =
    let l = c.before.loop-i in
    let s = c.before.before in
    let e : l.i ≡ s.args.k + 1 = omega arith in
    absurd (no_both _ (rw e at l.invariant.1.1) s.requires.1.1)

pub cumulative_found_spec : {M : Type 1} → statement M
cumulative_found_spec =
    tie.close
    (tie.spec
    invariant-loop
    decreases-loop
    add-n
    loop-holds
    first-outside-requires
    sub-if1
    returns
    sub_at
    add_at
    add-i
    loop-less
    loop-again
    returns-2)
