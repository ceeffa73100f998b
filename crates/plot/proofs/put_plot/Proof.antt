-- The scale is sound and reaches every value (scale_sound, all_reached). Assumes nothing.
use Rattle.plot.specs.Plot.{plot}
use Rattle.plot.proofs.Slots.{scale_sound, all_reached}
use borrow.Author.Rules.{rules}
use Rattle.plot.proofs.put_plot.Statement.{statement}
use Rattle.plot.proofs.put_plot.Tie as tie

put-plot-by-requires : tie.Need-put_plot_by-requires
put-plot-by-requires c κs =
    let s = c.before.before.before.before in
    let values = s.args.values.now in
    let h = s.requires.0.0 in
    let m = s.requires.0.1 in
    let p = s.requires.1.1 in
    rw c.before.scale_for-scale.ensures
    (s.requires.0, ((s.requires.1.0, scale_sound s.args.one values s.args.series h m p), (p, all_reached s.args.one values s.args.series h m p)))

returns : tie.Need-returns
unfolding plot
returns c = rw c.before.before.before.before.scale_for-scale.ensures at c.before.before.put_plot_by.ensures

pub put_plot_spec : {M : Type 1} → statement M
put_plot_spec =
    tie.close
    (tie.spec
    (λ c κs. search rules)
    put-plot-by-requires
    (λ c. search rules)
    returns)
