use mathlib.Core.Path.{◌≡◌}
use Prim.Native.Nat.{◌+◌}
use lib.IntN.{pos}
use lib.ListN.{get_or}
use lib.Seq.{sets}
use Rattle.rules.specs.Lists.{up_to}
use Rattle.rules.specs.Triangle.{average_of}
use Rattle.history_averages.proofs.fill_year.Given as goal

abbrev pub invariant-loop-j : goal.invariant-loop-j
invariant-loop-j l = l.row ≡ sets l.fn.row 0 (up_to (λ c. average_of (get_or l.cells (l.at + c) (pos 0)) l.claims) l.j)
