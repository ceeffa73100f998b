-- The loop's invariant: the averages of the origin years before i are stored, and `at` is where origin year i starts. Assumes nothing.
use mathlib.Core.Path.{◌≡◌}
use Prim.Native.Nat.{◌-◌, ◌≤◌}
use Rattle.rules.specs.History.{history_start}
use Rattle.history_averages.specs.HistoryRows.{history_rows}
use Rattle.history_averages.proofs.fill_history.Given as goal

abbrev pub invariant-loop-i : goal.invariant-loop-i
invariant-loop-i l = (l.i ≤ l.years) × (l.at ≡ history_start l.years l.i) × (l.rows ≡ history_rows l.years l.width l.exposures l.cells l.i)

abbrev pub decreases-loop-i : goal.decreases-loop-i
decreases-loop-i l = l.years - l.i
