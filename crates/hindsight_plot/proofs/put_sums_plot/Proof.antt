-- The sums can be plotted (sums_plotted). Assumes nothing.
use native.Mathlib.Omega.{arith}
use Rattle.composing.proofs.Puts.{put_none}
use Rattle.parts.specs.Parts.{either, only}
use Rattle.hindsight_plot.specs.Sums.{sums_words, sums_series, sums_plot}
use Rattle.hindsight_plot.proofs.Plotted.{sums_plotted}
use borrow.Author.Rules.{rules}
use Rattle.hindsight_plot.proofs.put_sums_plot.Statement.{statement}
use Rattle.hindsight_plot.proofs.put_sums_plot.Tie as tie

put-plot-requires : tie.Need-put_plot-requires
unfolding sums_series
put-plot-requires c κs =
    let s = c.before.before.before.before.before.before.before in
    let plotted = sums_plotted s.args.list.now s.args.settings.now s.args.k s.args.n s.requires in
    ((omega arith, omega arith), ((omega (arith, s.requires.few), omega arith), rw c.before.before.before.before.grid_values-values.ensures plotted))

returns : tie.Need-returns-then-html
unfolding sums_plot sums_words only either sums_series
returns c = rw c.before.before.before.before.before.before.before.before.if-html.true (rw c.before.before.before.before.before.before.before.grid_values-values.ensures at c.before.before.put_plot.ensures)

returns-2 : tie.Need-returns-else-html
unfolding sums_plot only either
returns-2 c = rw c.if-html.false (put_none c.before.before.args.out.now c.before.before.args.at)

pub put_sums_plot_spec : {M : Type 1} → statement M
put_sums_plot_spec =
    tie.close
    (tie.spec
    (λ c κs. search rules)
    (λ c. search rules)
    put-plot-requires
    (λ c. search rules)
    returns
    returns-2)
