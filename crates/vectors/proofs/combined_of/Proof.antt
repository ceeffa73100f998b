-- Both figures are far below 2^63. Assumes nothing.
use mathlib.Core.Path.{◌≡◌, ◌∙◌}
use mir.Syntax.{w64}
use mir.Facts.{to_z-of_z}
use borrow.Author.Rules.{rules, sfits_of}
use Rattle.vectors.specs.Vectors.{combined}
use Rattle.vectors.proofs.combined_of.Statement.{statement}
use Rattle.vectors.proofs.combined_of.Tie as tie

returns : tie.Need-returns-then-less
unfolding combined
returns c =
    let s = c.before.before in
    let e = to_z-of_z {w = w64} {z = c.subtract.result} (sfits_of c.subtract.type_inv) ∙ c.subtract.ensures in
    rw (c.before.if-less.true, e, to_z-of_z s.ranges.x, to_z-of_z s.ranges.y)

returns-2 : tie.Need-returns
unfolding combined
returns-2 c =
    let s = c.before.before in
    let e = to_z-of_z {w = w64} {z = c.add.result} (sfits_of c.add.type_inv) ∙ c.add.ensures in
    rw (c.before.if-less.false, e, to_z-of_z s.ranges.x, to_z-of_z s.ranges.y)

pub combined_of_spec : {M : Type 1} → statement M
combined_of_spec = tie.close (tie.spec (λ c κs. search rules) returns (λ c κs. search rules) returns-2)
