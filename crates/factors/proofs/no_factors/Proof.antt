-- The factors are zeros, as `no_factors` says. Assumes nothing.
use mathlib.Core.Path.{refl}
use Rattle.rules.specs.Separation.{no_factors}
use Rattle.factors.proofs.no_factors.Statement.{statement}
use Rattle.factors.proofs.no_factors.Tie as tie

returns : tie.Need-returns
unfolding no_factors
returns c = refl

pub no_factors_spec : {M : Type 1} → statement M
no_factors_spec = tie.close (tie.spec returns)
