-- The plots of a history, one for each development year: how its share drifts from position to position. They are on the page of HTML alone. Assumes nothing.
use Rattle.std.specs.Prelude.{ℕ, ◌+◌, ◌/◌, Bool, false, List, ◌++◌, ℤ}
use Rattle.rules.specs.Lists.{up_to, joined}
use Rattle.rules.specs.History.{position_count}
use Rattle.axis.specs.declared.Scale.{Scale}
use Rattle.axis.specs.Axis.{zero_line, foot_line, unit_of, shown_step}
use Rattle.drawing.specs.Drawing.{ticks}
use Rattle.figure_caption.specs.Caption.{wide_of}
use Rattle.figure.specs.Figure.{figure_start, figure_end}
use Rattle.parts.specs.Parts.{only, beside_start, beside_end}
use Rattle.drift_words.specs.Words.{drift_words}
use Rattle.drift_scale.specs.Scales.{largest_share, in_percent, one_for, drift_scale}
use Rattle.drift_bars.specs.Bars.{drift_bars}

-- n bars take half as many slots of thirty places
unfoldable pub slots_of : ℕ → ℕ
slots_of n = (n + 1) / 2

-- the plot of development year j over n positions by its scale, `one` of the axis in billionths
unfoldable pub drift_by : List ℕ → ℕ → Scale → ℕ → List ℤ → ℕ → ℕ → ℕ → List ℕ
drift_by words one scale first list width j n =
    figure_start words (slots_of n) (foot_line scale) (unit_of one scale.step)
    ++ (ticks scale (wide_of (slots_of n)) (shown_step one scale.step)
    ++ (drift_bars scale first list width j n ++ figure_end (slots_of n) (zero_line scale)))

-- by its own scale
unfoldable pub drift_plot : ℕ → List ℤ → ℕ → ℕ → ℕ → List ℕ
drift_plot first list width j n =
    drift_by (drift_words j (in_percent (largest_share false list width j n))) (one_for (largest_share false list width j n)) (drift_scale list width j n) first list width j n

-- of every development year
unfoldable pub drift_plots : ℕ → ℕ → ℕ → List ℤ → List ℕ
drift_plots first years width list = joined (up_to (λ j. drift_plot first list width j (position_count years width)) width)

-- in rows, on the page of HTML alone
unfoldable pub drift : Bool → ℕ → ℕ → ℕ → List ℤ → List ℕ
drift html first years width list = only html (beside_start html ++ (drift_plots first years width list ++ beside_end html))
