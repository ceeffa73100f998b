-- The grid has its places (pair_length) and can be plotted (pair_plotted). Assumes nothing.
use mathlib.Core.Path.{sym}
use Rattle.composing.proofs.Puts.{put_none}
use Rattle.parts.specs.Parts.{either, only}
use Rattle.column_plot.specs.ColumnPlot.{pair_series, column_plot}
use Rattle.column_plot.proofs.Pairs.{pair_length, pair_plotted}
use borrow.Author.Rules.{rules}
use Rattle.column_plot.proofs.put_column_plot.Statement.{statement}
use Rattle.column_plot.proofs.put_column_plot.Tie as tie

slice-aggregate-put-plot : tie.Need-slice_bounds-put_plot-end
slice-aggregate-put-plot c =
    let p = c.before.before in
    let s = p.before.before.before.before.before.before in
    rw p.place_pair.ensures.0 (sym (pair_length s.args.n s.args.a s.args.b s.args.figures.now))

put-plot-requires : tie.Need-put_plot-requires
unfolding pair_series
put-plot-requires c κs =
    let p = c.before.before in
    let s = p.before.before.before.before.before.before in
    let scaled = s.requires.0 in
    let plotted = pair_plotted s.args.n s.args.a s.args.b s.args.figures.now scaled.rows_most s.requires.1.0 s.requires.1.1 in
    ((scaled.one_least, scaled.one_most), ((scaled.rows_most, scaled.first_most), rw p.place_pair.ensures.0 plotted))

returns : tie.Need-returns-then-html
unfolding column_plot only either pair_series
returns c =
    let p = c.before.before.before.before.before in
    rw p.before.before.before.if-html.true (rw p.place_pair.ensures.0 at c.before.before.put_plot.ensures)

returns-2 : tie.Need-returns-else-html
unfolding column_plot only either
returns-2 c = rw c.if-html.false (put_none c.before.before.before.args.out.now c.before.before.before.args.at)

pub put_column_plot_spec : {M : Type 1} → statement M
put_column_plot_spec =
    tie.close
    (tie.spec
    (λ c κs. search rules)
    slice-aggregate-put-plot
    put-plot-requires
    (λ c. search rules)
    returns
    returns-2)
