-- A running share and a T are at most S each, so that their product fits. Assumes nothing.
use borrow.Author.Rules.{rules}
use mathlib.Core.Path.{refl}
use Prim.Native.Nat.{◌-◌, ◌≤◌}
use native.Mathlib.Nat.{mul-le-mul}
use native.Mathlib.Omega.{arith}
use lib.ListN.{get_or}
use Rattle.rules.specs.Separation.{billion}
use Rattle.factors.proofs.Parts.{below_part_most}
use Rattle.factors.proofs.running_below.Statement.{statement}
use Rattle.factors.proofs.running_below.Tie as tie

mul-t : tie.Need-offset_bounds-corners-h
mul-t c = search rules

element-copy-out-t : tie.Need-bounds-corners-h
element-copy-out-t c = search rules

mul-result : tie.Need-offset_bounds-columns-h
mul-result c = search rules

element-copy-out-result : tie.Need-bounds-columns-h
element-copy-out-result c = search rules

sub-result : tie.Need-overflow_sub-result
sub-result c = search rules

mul-result-2 : tie.Need-overflow_mul-result
mul-result-2 c =
    let s = c.before.before in
    let rest = get_or s.args.corners.now s.args.h 0 - get_or s.args.columns.now s.args.h 0 in
    let small : rest ≤ billion = omega arith in
    omega (arith, mul-le-mul s.requires.1.1.0 small)

div-result : tie.Need-nonzero_div-result
div-result c = search rules

returns : tie.Need-returns
returns c =
    let s = c.before.before in
    (refl, below_part_most s.args.a (get_or s.args.corners.now s.args.h 0) (get_or s.args.columns.now s.args.h 0))

pub running_below_spec : {M : Type 1} → statement M
running_below_spec =
    tie.close
    (tie.spec
    mul-t
    element-copy-out-t
    mul-result
    element-copy-out-result
    sub-result
    mul-result-2
    div-result
    returns)
