-- The totals of the square are read again (rest_is). Assumes nothing.
use mathlib.Core.Path.{◌∙◌}
use native.Mathlib.Omega.{arith}
use Rattle.outcomes.proofs.Said.{rests_no}
use Rattle.triangle_findings.proofs.Again.{late}
use Rattle.triangle_findings.proofs.Totals.{columns_small, diagonals_small}
use Rattle.triangle_findings.proofs.Rests.{rests_in, rest_is}
use Rattle.triangle_findings.proofs.rest_finding.Statement.{statement}
use Rattle.triangle_findings.proofs.rest_finding.Tie as tie

totals-again-requires : tie.Need-totals_again-k-requires
totals-again-requires c κs = let s = c.before.before.before in late s.args.year s.args.packed.now 8 (omega arith) s.requires

rest-found-requires : tie.Need-rest_found-requires
rest-found-requires c κs =
    let read = c.before.before.totals_again-k.ensures in
    let s = c.before.before.before.before.before.before in
    let few = rw read.0 at read.1.0 in (
      read.1.0,
      (
        columns_small _ _ few _ _ read.1.1,
        (diagonals_small _ _ few _ _ read.1.1, rests_in _ _ few _ _ read.1.1 (rests_no s.args.year s.args.packed.now s.requires) _ read.0),
      ),
    )

returns : tie.Need-returns
returns c =
    let read = c.before.before.before.totals_again-k.ensures in
    let s = c.before.before.before.before.before.before.before in
    (c.rest_found.ensures.0 ∙ rest_is _ _ (rw read.0 at read.1.0) _ _ read.1.1 (rests_no s.args.year s.args.packed.now s.requires) _ read.0, c.rest_found.ensures.1)

pub rest_finding_spec : {M : Type 1} → statement M
rest_finding_spec = tie.close (tie.spec totals-again-requires rest-found-requires returns)
