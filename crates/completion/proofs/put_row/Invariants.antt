-- The loop's invariant: the first m payments are stored, and `sum` is their sum, at most 5 × 10^13 each. Assumes nothing.
use mathlib.Core.Path.{◌≡◌}
use Prim.Native.Nat.{◌+◌, ◌-◌, ◌*◌, ◌≤◌}
use lib.Seq.{sets}
use Rattle.rules.specs.Lists.{total, up_to}
use Rattle.rules.specs.Completion.{payment}
use Rattle.completion.specs.Asked.{most_payment}
use Rattle.completion.proofs.put_row.Given as goal

abbrev pub invariant-loop-m : goal.invariant-loop-m
invariant-loop-m l = (l.m ≤ l.i)
    × ((l.sum ≤ l.m * most_payment)
    × ((l.sum ≡ total (up_to (λ m. payment l.k l.exposures l.shares l.levels l.i (l.k + 1 - l.i + m)) l.m)) × (l.all ≡ sets l.initial.all l.at (up_to (λ m. payment l.k l.exposures l.shares l.levels l.i (l.k + 1 - l.i + m)) l.m))))

abbrev pub decreases-loop-m : goal.decreases-loop-m
decreases-loop-m l = l.i - l.m
