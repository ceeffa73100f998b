-- The difference of two entries. Assumes nothing.
use mir.Syntax.{w64}
use mathlib.Core.Path.{ap₂, ◌∙◌}
use native.Mathlib.Omega.{arith}
use lib.IntN.{ℤ, ◌-ℤ◌}
use mir.Facts.{to_z-of_z}
use borrow.Author.Rules.{sfits_of}
use Rattle.triangle_findings.proofs.Rests.{total_held}
use Rattle.rest_years.proofs.Held.{entry_held}
use Rattle.rest_years.proofs.left_of.Statement.{statement}
use Rattle.rest_years.proofs.left_of.Tie as tie

mul-subtract : tie.Need-offset_bounds-corners-h
mul-subtract c = omega arith

element-copy-out-subtract : tie.Need-bounds-corners-h
element-copy-out-subtract c = omega arith

mul-subtract-2 : tie.Need-offset_bounds-columns-h
mul-subtract-2 c = omega arith

element-copy-out-subtract-2 : tie.Need-bounds-columns-h
element-copy-out-subtract-2 c = omega arith

subtract-requires : tie.Need-subtract-requires
subtract-requires c κs =
    let s = c.before.before in
    let a = s.requires.1.0 in
    let b = s.requires.1.1 in
    rw (entry_held s.args.corners.now a s.args.h, total_held s.args.columns.now b s.args.h) (omega (arith, a s.args.h), omega (arith, b s.args.h))

returns : tie.Need-returns
returns c =
    let s = c.before.before.before in
    to_z-of_z {w = w64} (sfits_of c.subtract.type_inv)
    ∙ c.subtract.ensures
    ∙ ap₂ (λ (x y : ℤ). x -ℤ y) (entry_held s.args.corners.now s.requires.1.0 s.args.h) (total_held s.args.columns.now s.requires.1.1 s.args.h)

pub left_of_spec : {M : Type 1} → statement M
left_of_spec =
    tie.close
    (tie.spec
    mul-subtract
    element-copy-out-subtract
    mul-subtract-2
    element-copy-out-subtract-2
    subtract-requires
    returns)
