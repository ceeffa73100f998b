-- The test itself. Assumes nothing.
use mathlib.Core.Path.{refl}
use Rattle.drift_scale.specs.Scales.{in_percent}
use Rattle.drift_scale.proofs.in_percent.Statement.{statement}
use Rattle.drift_scale.proofs.in_percent.Tie as tie

returns : tie.Need-returns
unfolding in_percent
returns c = refl

pub in_percent_spec : {M : Type 1} → statement M
in_percent_spec =
    tie.close
    (tie.spec
    returns)
