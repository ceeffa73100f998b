-- Sums of sections side by side, each with its place. Assumes nothing.
use Prim.Native.Nat.{◌+◌}
use native.Mathlib.Omega.{arith}
use mathlib.Core.Path.{◌∙◌}
use mir.Syntax.{w64}
use mir.Facts.{to_z-of_z}
use Rattle.figure_places.specs.Places.{added_at}
use Rattle.summary_figures.specs.Summary.{compared_of}
use Rattle.summary_figures.proofs.Sections.{all_placed, spans}
use borrow.Author.Rules.{rules, sfits_of}
use Rattle.summary.proofs.fill_compared.Statement.{statement}
use Rattle.summary.proofs.fill_compared.Tie as tie

sections-apart-requires : tie.Need-sections_apart-requires
sections-apart-requires c κs =
    let s = c in
    let k = s.args.k in
    let p = all_placed k s.requires.0 in
    let part = spans k s.args.figures.now s.requires.0 s.requires.1.1 in
    rw s.requires.1.0 (omega arith, (part (added_at k).ultimates (k + 1) (omega arith) (omega arith), part (added_at k).ladder (k + 1) (omega arith) (omega arith)))

sections-together-requires : tie.Need-sections_together-requires
sections-together-requires c κs =
    let s = c.before in
    let k = s.args.k in
    let p = all_placed k s.requires.0 in
    let part = spans k s.args.figures.now s.requires.0 s.requires.1.1 in
    rw s.requires.1.0 (omega arith, (part (added_at k).allowances (k + 1) (omega arith) (omega arith), part (added_at k).margins (k + 1) (omega arith) (omega arith)))

returns : tie.Need-returns
unfolding compared_of
returns c =
    let s = c.before.before.before in
    let apart = to_z-of_z {w = w64} {z = c.before.before.sections_apart.result} (sfits_of c.before.before.sections_apart.type_inv) in
    let together = to_z-of_z {w = w64} {z = c.before.sections_together.result} (sfits_of c.before.sections_together.type_inv) in
    let tails = to_z-of_z {w = w64} {z = c.tail_allowance.result} (sfits_of c.tail_allowance.type_inv) in
    rw (
      apart ∙ (rw s.requires.1.0 at c.before.before.sections_apart.ensures),
      together ∙ (rw s.requires.1.0 at c.before.sections_together.ensures),
      tails ∙ c.tail_allowance.ensures,
    )

pub fill_compared_spec : {M : Type 1} → statement M
fill_compared_spec =
    tie.close
    (tie.spec
    (λ c. search rules)
    sections-apart-requires
    (λ c. search rules)
    sections-together-requires
    (λ c. search rules)
    (λ c κs. search rules)
    (λ c. search rules)
    returns)
