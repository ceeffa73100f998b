-- A length is below 2 ^ 63, and keeps its value as a signed number. Assumes nothing.
use native.Mathlib.Omega.{arith}
use lib.ListN.{length}
use mir.Syntax.{w64}
use mir.ValLaws.{to_z_pos}
use borrow.Author.Rules.{rules}
use Rattle.record_findings.specs.RecordFindings.{given_finding}
use Rattle.record_findings.proofs.given_finding.Statement.{statement}
use Rattle.record_findings.proofs.given_finding.Tie as tie

returns : tie.Need-returns
unfolding given_finding
returns c = rw (to_z_pos w64 (length c.args.packed.now) (omega arith))

pub given_finding_spec : {M : Type 1} → statement M
given_finding_spec = tie.close (tie.spec (λ c. search rules) returns)
