-- The parts follow one another (put_four). Assumes nothing.
use native.Mathlib.Omega.{arith}
use Rattle.composing.proofs.Puts.{put_four}
use Rattle.axis.proofs.Axis.{foot_most, shown_most}
use Rattle.plot.specs.Plot.{plot_by}
use borrow.Author.Rules.{rules}
use Rattle.plot.proofs.put_plot_by.Statement.{statement}
use Rattle.plot.proofs.put_plot_by.Tie as tie

put-figure-start-requires : tie.Need-put_figure_start-start-requires
put-figure-start-requires c κs =
    let s = c.before.before.before.before.before in
    (s.requires.1.0.0.0, rw c.before.foot_line.ensures (foot_most s.args.scale s.requires.1.0.1))

put-ticks-requires : tie.Need-put_ticks-ticks-requires
put-ticks-requires c κs =
    let s = c.before.before.before.before.before.before.before.before.before.before.before in
    (s.requires.1.0.1, omega (arith, c.shown_step.ensures, shown_most s.args.one s.args.scale.step, s.requires.1.0.1.most))

put-figure-end-requires : tie.Need-put_figure_end-requires
put-figure-end-requires c κs = c.before.before.before.before.before.before.before.before.before.before.before.before.before.before.before.before.before.before.before.before.requires.1.0.0.0

returns : tie.Need-returns
unfolding plot_by
returns c =
    put_four
    (rw (c.before.before.before.before.before.before.before.before.before.before.before.before.before.before.before.before.before.before.before.foot_line.ensures, c.before.before.before.before.before.before.before.before.before.before.before.before.before.before.before.before.before.before.unit_of.ensures) at c.before.before.before.before.before.before.before.before.before.before.before.before.before.before.before.before.before.put_figure_start-start.ensures)
    (rw (c.before.before.before.before.before.before.before.before.before.before.before.before.before.wide_of.ensures, c.before.before.before.before.before.before.before.before.before.before.before.before.shown_step.ensures) at c.before.before.before.before.before.before.before.before.before.before.before.put_ticks-ticks.ensures)
    c.before.before.before.before.before.before.before.put_slots-slots.ensures
    (rw c.before.before.before.zero_line.ensures at c.before.before.put_figure_end.ensures)

pub put_plot_by_spec : {M : Type 1} → statement M
put_plot_by_spec =
    tie.close
    (tie.spec
    (λ c κs. search rules)
    (λ c κs. search rules)
    put-figure-start-requires
    (λ c κs. search rules)
    (λ c κs. search rules)
    put-ticks-requires
    (λ c κs. search rules)
    (λ c κs. search rules)
    put-figure-end-requires
    (λ c. search rules)
    returns)
