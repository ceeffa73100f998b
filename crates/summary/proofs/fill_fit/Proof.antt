-- Both are far below 2^63. Assumes nothing.
use native.Mathlib.Omega.{arith}
use mathlib.Core.Path.{ap, ◌∙◌}
use lib.IntN.{pos}
use mir.Syntax.{w64}
use mir.ValLaws.{to_z_pos}
use Rattle.rules.specs.Lists.{total}
use Rattle.rules.specs.Record.{cells}
use Rattle.rules.specs.Results.{section_start}
use Rattle.figure_places.specs.Places.{added_at}
use Rattle.summary_figures.specs.Summary.{fit_of}
use Rattle.summary_figures.proofs.Sections.{all_placed, spans}
use borrow.Author.Rules.{rules}
use Rattle.summary.proofs.fill_fit.Statement.{statement}
use Rattle.summary.proofs.fill_fit.Tie as tie

section-sizes-requires : tie.Need-section_sizes-requires
section-sizes-requires c κs =
    let s = c.before in
    let k = s.args.k in
    let p = all_placed k s.requires.0 in
    rw (s.requires.1.0, c.cells_of-m.ensures.0) (spans k s.args.figures.now s.requires.0 s.requires.1.1 (added_at k).gaps (cells k) (omega arith) (omega arith))

lost-payments-requires : tie.Need-lost_payments-requires
lost-payments-requires c κs =
    let s = c.before.before in
    let p = all_placed s.args.k s.requires.0 in
    rw (s.requires.1.0, c.before.cells_of-m.ensures.0) (omega arith, omega arith)

returns : tie.Need-returns
unfolding fit_of section_start total
returns c =
    let s = c.before.before.before in
    let p = all_placed s.args.k s.requires.0 in
    let m = c.before.before.cells_of-m.ensures.0 in
    let sizes = rw (s.requires.1.0, m) at c.before.section_sizes.ensures in
    let lost = rw (s.requires.1.0, m) at c.lost_payments.ensures in
    rw (
      to_z_pos w64 c.before.section_sizes.result (omega (arith, sizes.1)) ∙ ap pos sizes.0,
      to_z_pos w64 c.lost_payments.result (omega (arith, lost.1)) ∙ ap pos lost.0,
    )

pub fill_fit_spec : {M : Type 1} → statement M
fill_fit_spec =
    tie.close
    (tie.spec (λ c κs. search rules) section-sizes-requires (λ c. search rules) (λ c. search rules) lost-payments-requires (λ c. search rules) (λ c. search rules) returns)
