-- Two sums, the first less the second, that are far below 2^63 (signed_sums). Assumes nothing.
use native.Mathlib.Omega.{arith}
use mathlib.Core.Path.{ap₂, ◌∙◌}
use lib.IntN.{◌-ℤ◌}
use mir.Syntax.{w64}
use mir.Facts.{to_z-of_z}
use borrow.Author.Rules.{rules, sfits_of}
use Rattle.section_numbers.proofs.sections_apart.Statement.{statement}
use Rattle.section_numbers.proofs.sections_apart.Tie as tie

subtract-requires : tie.Need-subtract-requires
subtract-requires c κs =
    let first = to_z-of_z {w = w64} {z = c.before.section_sum.result} (sfits_of c.before.section_sum.type_inv) in
    let second = to_z-of_z {w = w64} {z = c.section_sum-2.result} (sfits_of c.section_sum-2.type_inv) in
    (rw first (omega (arith, c.before.section_sum.ensures.1)), rw second (omega (arith, c.section_sum-2.ensures.1)))

returns : tie.Need-returns
returns c =
    let first = to_z-of_z {w = w64} {z = c.before.before.section_sum.result} (sfits_of c.before.before.section_sum.type_inv) in
    let second = to_z-of_z {w = w64} {z = c.before.section_sum-2.result} (sfits_of c.before.section_sum-2.type_inv) in
    let sum = to_z-of_z {w = w64} {z = c.subtract.result} (sfits_of c.subtract.type_inv) in
    sum ∙ c.subtract.ensures ∙ ap₂ ◌-ℤ◌ (first ∙ c.before.before.section_sum.ensures.0) (second ∙ c.before.section_sum-2.ensures.0)

pub sections_apart_spec : {M : Type 1} → statement M
sections_apart_spec = tie.close (tie.spec (λ c κs. search rules) (λ c κs. search rules) subtract-requires returns)
