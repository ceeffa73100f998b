-- The claims, and 100 for each year, far below 2^63. Assumes nothing.
use Prim.Native.Nat.{◌+◌, ◌*◌}
use native.Mathlib.Omega.{arith}
use mathlib.Core.Path.{ap₂, ◌∙◌}
use lib.IntN.{◌+ℤ◌}
use mir.Syntax.{w64}
use mir.Facts.{to_z-of_z}
use mir.ValLaws.{to_z_pos}
use Rattle.figure_places.specs.Places.{added_at}
use Rattle.summary_figures.specs.Summary.{tail_allowance}
use Rattle.summary_figures.proofs.Sections.{all_placed, spans}
use borrow.Author.Rules.{rules, sfits_of}
use Rattle.summary.proofs.tail_allowance.Statement.{statement}
use Rattle.summary.proofs.tail_allowance.Tie as tie

section-sum-requires : tie.Need-section_sum-requires
section-sum-requires c κs =
    let s = c in
    let k = s.args.k in
    let p = all_placed k s.requires.0 in
    rw s.requires.1.0 (spans k s.args.figures.now s.requires.0 s.requires.1.1 (added_at k).exposures (k + 1) (omega arith) (omega arith))

add-requires : tie.Need-add-requires
add-requires c κs =
    let claims = to_z-of_z {w = w64} {z = c.section_sum.result} (sfits_of c.section_sum.type_inv) in
    let years = to_z_pos w64 (100 * (c.before.args.k + 1)) (omega (arith, c.before.requires.0)) in
    (rw claims (omega (arith, c.section_sum.ensures.1, c.before.requires.0)), rw years (omega (arith, c.before.requires.0)))

returns : tie.Need-returns
unfolding tail_allowance
returns c =
    let s = c.before.before in
    let claims = to_z-of_z {w = w64} {z = c.before.section_sum.result} (sfits_of c.before.section_sum.type_inv) in
    let years = to_z_pos w64 (100 * (s.args.k + 1)) (omega (arith, s.requires.0)) in
    let sum = to_z-of_z {w = w64} {z = c.add.result} (sfits_of c.add.type_inv) in
    sum ∙ c.add.ensures ∙ ap₂ ◌+ℤ◌ (claims ∙ (rw s.requires.1.0 at c.before.section_sum.ensures.0)) years

pub tail_allowance_spec : {M : Type 1} → statement M
tail_allowance_spec =
    tie.close (tie.spec (λ c. search rules) section-sum-requires (λ c. search rules) (λ c. search rules) add-requires returns)
