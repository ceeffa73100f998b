-- Assumes nothing.
use mathlib.Core.Path.{ap}
use lib.Ieee.{of_bits}
use Rattle.rules.specs.declared.Path.{Path}
use Rattle.rules.specs.Inflation.{state_after}
use Rattle.inflation.proofs.Years.{state_next}
use Rattle.inflation.proofs.path_next.Statement.{statement}
use Rattle.inflation.proofs.path_next.Tie as tie

next-rate-requires : tie.Need-next_rate-requires
unfolding state_after
next-rate-requires c κs = (c.before.requires.0, ap (λ (p : Path). p.rate) c.before.requires.1)

returns : tie.Need-returns
unfolding of_bits
returns c = state_next c.before.before.args.shape c.before.before.args.n c.before.before.args.path _ c.before.before.requires.1 c.next_rate.ensures

pub path_next_spec : {M : Type 1} → statement M
path_next_spec = tie.close (tie.spec next-rate-requires returns)
