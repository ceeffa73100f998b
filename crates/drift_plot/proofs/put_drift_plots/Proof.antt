-- The loop's invariant: the plots of the first j development years are put. Assumes nothing.
use mathlib.Core.Path.{◌≡◌}
use mathlib.Core.List.{List}
use Prim.Native.Nat.{ℕ, ◌+◌, ◌-◌, ◌≤◌}
use native.Mathlib.Omega.{arith}
use lib.IntN.{ℤ}
use Rattle.rules.specs.Lists.{up_to, joined}
use Rattle.rules.specs.History.{position_count}
use Rattle.composing.specs.Text.{Put}
use Rattle.composing.proofs.Puts.{put_first, put_more, put_length}
use Rattle.drift_plot.specs.Drift.{drift_plot, drift_plots}
use borrow.Author.Rules.{rules}
use Rattle.drift_plot.proofs.put_drift_plots.Statement.{statement}
use Rattle.drift_plot.proofs.put_drift_plots.Tie as tie

-- the plot of development year j
abbrev plotAt : ℕ → ℕ → ℕ → List ℤ → ℕ → List ℕ
plotAt first years width list j = drift_plot first list width j (years - width + 1)

abbrev invariant-loop : tie.invariant-loop-j
invariant-loop out₀ at first years width list n end₀ j₀ out end j =
    (j ≤ width) × Put out₀ out at end (joined (up_to (plotAt first years width list) j))

abbrev decreases-loop : tie.decreases-loop-j
decreases-loop out₀ at first years width list n end₀ j₀ out end j = width - j

loop-holds : tie.Need-loop-j-init invariant-loop decreases-loop
loop-holds c = (omega arith, put_first _ _ _)

put-drift-plot-requires : tie.Need-put_drift_plot-end-requires invariant-loop decreases-loop
put-drift-plot-requires c κs =
    let s = c.before.before.before.before in
    let w = s.requires.0 in
    ((w.first_most, (omega (arith, w.years_most, w.width_least, w.width_fits), s.requires.1)), (omega (arith, w.years_most, w.width_fits), (w.width_most_lem, omega arith)))

loop-again : tie.Need-loop-j-preserved invariant-loop decreases-loop
loop-again c =
    let s = c.before.before.before.before.before.before.before.args in
    let l = c.before.before.before.before.before.loop-j in
    (omega arith, put_more (plotAt s.first s.years s.width s.list.now) l.j l.invariant.1 c.before.before.put_drift_plot-end.ensures)

same_length : tie.Need-shape_of-out invariant-loop decreases-loop
same_length c = put_length c.before.loop-j.invariant.1

returns : tie.Need-returns invariant-loop decreases-loop
unfolding drift_plots position_count
returns c =
    let e : c.before.loop-j.j ≡ c.before.before.before.args.width = omega arith in
    rw e at c.before.loop-j.invariant.1

pub put_drift_plots_spec : {M : Type 1} → statement M
put_drift_plots_spec =
    tie.close
    (tie.spec
    invariant-loop
    decreases-loop
    (λ c. search rules)
    (λ c. search rules)
    loop-holds
    put-drift-plot-requires
    (λ c. omega arith)
    (λ c. omega arith)
    loop-again
    same_length
    returns)
