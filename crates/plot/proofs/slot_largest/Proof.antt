-- By the bars of a slot. Assumes nothing.
use mir.Syntax.{w64}
use mir.Facts.{to_z-of_z}
use mathlib.Core.Path.{ap, ap₂, ◌∙◌}
use Prim.Native.Nat.{max}
use borrow.Author.Tests.{eq-eqb, ne_eqb}
use borrow.Author.Rules.{rules, sfits_of}
use Rattle.axis.specs.Axis.{side_of}
use Rattle.plot.specs.Plot.{first_bar, second_bar, slot_largest}
use Rattle.plot.proofs.slot_largest.Statement.{statement}
use Rattle.plot.proofs.slot_largest.Tie as tie

shared-slice-copy-out-side-of-2 : tie.Need-bounds-values-p-then-s-eq2
shared-slice-copy-out-side-of-2 c = c.before.before.before.before.before.before.requires.second_inside c.if-s-eq2.true

returns : tie.Need-returns-then-s-eq2
unfolding slot_largest
returns c =
    let s = c.before.before.before.before.before.before.before.before.before in
    let values = s.args.values.now in
    let kept = to_z-of_z {w = w64} {z = first_bar values s.args.s s.args.c} (sfits_of c.before.before.before.before.before.before.side_of-arg-1.given) in
    let kept2 = to_z-of_z {w = w64} {z = second_bar values s.args.s s.args.c} (sfits_of c.before.before.side_of-arg-then-s-eq2-1.given) in
    rw (eq-eqb s.args.s.bars 2 c.before.before.before.if-s-eq2.true)
    (c.max.ensures ∙ ap₂ max (c.before.before.before.before.before.side_of-first.ensures ∙ ap (side_of s.args.low) kept) (c.before.side_of.ensures ∙ ap (side_of s.args.low) kept2))

returns-2 : tie.Need-returns-else-s-eq2
unfolding slot_largest
returns-2 c =
    let s = c.before.before.before.before.before.before in
    let values = s.args.values.now in
    let kept = to_z-of_z {w = w64} {z = first_bar values s.args.s s.args.c} (sfits_of c.before.before.before.side_of-arg-1.given) in
    rw (ne_eqb s.args.s.bars 2 c.if-s-eq2.false) (c.before.before.side_of-first.ensures ∙ ap (side_of s.args.low) kept)

pub slot_largest_spec : {M : Type 1} → statement M
slot_largest_spec =
    tie.close
    (tie.spec
    (λ c. search rules)
    (λ c. search rules)
    (λ c. search rules)
    (λ c. search rules)
    (λ c κs. search rules)
    (λ c. search rules)
    (λ c. search rules)
    shared-slice-copy-out-side-of-2
    (λ c κs. search rules)
    (λ c κs. search rules)
    returns
    returns-2)
