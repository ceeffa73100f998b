-- Each section can be taken (largest_span), and the cumulatives after them. Assumes nothing.
use native.Mathlib.Omega.{arith}
use mathlib.Core.Path.{ap, ◌∙◌}
use lib.IntN.{pos}
use mir.Syntax.{w64}
use mir.ValLaws.{to_z_pos}
use Rattle.rules.specs.Lists.{up_to}
use Rattle.section_numbers.specs.Numbers.{all_largest}
use Rattle.summary_figures.specs.Summary.{largest_sizes}
use Rattle.summary_figures.proofs.Sections.{largest_span}
use borrow.Author.Rules.{rules}
use Rattle.summary.proofs.fill_largest.Statement.{statement}
use Rattle.summary.proofs.fill_largest.Tie as tie

put-largest-requires : tie.Need-put_largest-requires
put-largest-requires c κs =
    let s = c.before.before.before.before in
    let all = largest_span s.args.k s.args.figures.now s.requires.0 s.requires.1.1.1 s.args.at s.args.starts c.before.before.before.cells_of.result s.requires.1.1.0 s.requires.1.0 c.before.before.before.cells_of.ensures.0 in
    (omega arith, (search rules, λ j h. all.each j))

returns : tie.Need-returns
unfolding largest_sizes all_largest up_to
returns c =
    let s = c.before.before.before.before.before.before in
    let kept = to_z_pos w64 c.largest_cumulative.result (omega (arith, c.largest_cumulative.ensures.1)) ∙ ap pos c.largest_cumulative.ensures.0 in
    let first = rw (s.requires.1.0, s.requires.1.1.0, c.before.before.before.before.before.cells_of.ensures.0) at c.before.put_largest.ensures in
    rw (kept, first)

pub fill_largest_spec : {M : Type 1} → statement M
fill_largest_spec =
    tie.close
    (tie.spec (λ c. search rules) (λ c κs. search rules) put-largest-requires (λ c κs. search rules) (λ c. search rules) (λ c. search rules) returns)
