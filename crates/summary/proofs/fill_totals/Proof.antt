-- Each section can be summed (totals_span). Assumes nothing.
use native.Mathlib.Omega.{arith}
use Rattle.rules.specs.Lists.{total, up_to}
use Rattle.rules.specs.Results.{section_start}
use Rattle.section_numbers.specs.Numbers.{sums_of}
use Rattle.summary_figures.specs.Summary.{totals_of}
use Rattle.summary_figures.proofs.Sections.{totals_span}
use borrow.Author.Rules.{rules}
use Rattle.summary.proofs.fill_totals.Statement.{statement}
use Rattle.summary.proofs.fill_totals.Tie as tie

put-sums-requires : tie.Need-put_sums-requires
put-sums-requires c κs =
    let s = c.before.before.before.before in
    let all = totals_span s.args.k s.args.figures.now s.requires.0 s.requires.1.1.1 s.args.at s.args.starts c.before.before.before.cells_of.result s.requires.1.1.0 s.requires.1.0 c.before.before.before.cells_of.ensures.0 in
    (omega arith, (search rules, λ j h. all.each j))

returns : tie.Need-returns
unfolding totals_of sums_of up_to section_start total
returns c =
    let s = c.before.before.before.before.before in
    rw (s.requires.1.0, s.requires.1.1.0, c.before.before.before.before.cells_of.ensures.0) at c.put_sums.ensures

pub fill_totals_spec : {M : Type 1} → statement M
fill_totals_spec = tie.close (tie.spec (λ c. search rules) (λ c κs. search rules) put-sums-requires returns)
