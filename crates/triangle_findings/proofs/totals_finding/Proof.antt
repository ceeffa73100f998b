-- The totals of the square are read again (totals_is). Assumes nothing.
use mathlib.Core.Path.{◌∙◌}
use native.Mathlib.Omega.{arith}
use Rattle.triangle_findings.proofs.Again.{late}
use Rattle.triangle_findings.proofs.Totals.{columns_small, totals_is}
use Rattle.triangle_findings.proofs.totals_finding.Statement.{statement}
use Rattle.triangle_findings.proofs.totals_finding.Tie as tie

totals-again-requires : tie.Need-totals_again-k-requires
totals-again-requires c κs = let s = c.before.before.before in late s.args.year s.args.packed.now 7 (omega arith) s.requires

totals-found-requires : tie.Need-totals_found-requires
totals-found-requires c κs =
    let at = c.before.before in
    let read = at.totals_again-k.ensures in
    (read.1.0, columns_small _ _ (rw read.0 at read.1.0) _ _ read.1.1)

returns : tie.Need-returns
returns c =
    let read = c.before.before.before.totals_again-k.ensures in
    (c.totals_found.ensures.0 ∙ totals_is _ _ (rw read.0 at read.1.0) _ _ read.1.1 _ read.0, c.totals_found.ensures.1)

pub totals_finding_spec : {M : Type 1} → statement M
totals_finding_spec = tie.close (tie.spec totals-again-requires totals-found-requires returns)
