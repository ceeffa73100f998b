-- Assumes nothing.
use lib.Ieee.{of_bits}
use Rattle.rules.specs.Inflation.{state_after, path_after}
use borrow.Author.Rules.{rules}
use Rattle.inflation.proofs.path_start.Statement.{statement}
use Rattle.inflation.proofs.path_start.Tie as tie

first-rate-requires : tie.Need-first_rate-requires
first-rate-requires c κs = search rules

returns : tie.Need-returns
unfolding state_after path_after of_bits
returns c = rw c.first_rate.ensures

pub path_start_spec : {M : Type 1} → statement M
path_start_spec = tie.close (tie.spec first-rate-requires returns)
