-- The running share of year 0 is 0 where question 9 says no (running_is). Assumes nothing.
use native.Mathlib.Omega.{arith}
use Rattle.rules.specs.Record.{figures_of}
use Rattle.rules.specs.Results.{square_of}
use Rattle.outcomes.proofs.Said.{running_no}
use Rattle.factor_findings.proofs.Running.{running_is}
use Rattle.factor_findings.proofs.running_finding.Statement.{statement}
use Rattle.factor_findings.proofs.running_finding.Tie as tie

returns : tie.Need-returns
returns c =
    let s = c.args.packed.now in
    (running_is (square_of (figures_of s)) (figures_of s).k (running_no c.args.year s c.requires), (omega arith, omega arith))

pub running_finding_spec : {M : Type 1} → statement M
running_finding_spec = tie.close (tie.spec returns)
