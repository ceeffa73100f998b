-- The loop's invariant: the largest of the first a positions is known (largest_more). Assumes nothing.
use mir.Syntax.{w64}
use mathlib.Core.Path.{◌≡◌, ap, ap₂, ◌∙◌}
use Prim.Native.Nat.{◌-◌, ◌≤◌, max}
use native.Mathlib.Omega.{arith}
use mir.Facts.{to_z-of_z}
use borrow.Author.Rules.{rules, sfits_of}
use Rattle.axis.specs.Axis.{side_of}
use Rattle.drift_scale.specs.Scales.{largest_share}
use Rattle.drift_scale.proofs.Largest.{largest_none, largest_more}
use Rattle.drift_scale.proofs.largest_share.Statement.{statement}
use Rattle.drift_scale.proofs.largest_share.Tie as tie

abbrev invariant-loop : tie.invariant-loop-a
invariant-loop list low width j n largest₀ a₀ largest a =
    (a ≤ n) × (largest ≡ largest_share low list width j a)

abbrev decreases-loop : tie.decreases-loop-a
decreases-loop list low width j n largest₀ a₀ largest a = n - a

loop-holds : tie.Need-loop-a-init invariant-loop decreases-loop
loop-holds c = (omega arith, largest_none c.args.low c.args.list.now c.args.width c.args.j)

share-at-requires : tie.Need-share_at-requires invariant-loop decreases-loop
share-at-requires c κs = ((omega (arith, c.before.before.requires.0), c.before.before.requires.1.0), c.before.before.requires.1.1)

loop-again : tie.Need-loop-a-preserved invariant-loop decreases-loop
loop-again c =
    let s = c.before.before.before.before.before in
    let l = c.before.before.before.before.loop-a in
    (omega arith, c.max-largest.ensures ∙ ap₂ max l.invariant.1 (c.before.side_of.ensures ∙ ap (side_of s.args.low) (to_z-of_z {w = w64} (sfits_of c.before.before.share_at.type_inv) ∙ c.before.before.share_at.ensures)) ∙ largest_more s.args.low s.args.list.now s.args.width s.args.j l.a)

returns : tie.Need-returns invariant-loop decreases-loop
returns c =
    let e : c.before.loop-a.a ≡ c.before.before.args.n = omega arith in
    rw e at c.before.loop-a.invariant.1

pub largest_share_spec : {M : Type 1} → statement M
largest_share_spec =
    tie.close
    (tie.spec
    invariant-loop
    decreases-loop
    loop-holds
    share-at-requires
    (λ c κs. search rules)
    (λ c κs. search rules)
    (λ c. omega arith)
    (λ c. omega arith)
    loop-again
    returns)
