-- Both lengths are below 2 ^ 63, and keep their values as signed numbers. Assumes nothing.
use native.Mathlib.Omega.{arith}
use lib.ListN.{length}
use mir.Syntax.{w64}
use mir.ValLaws.{to_z_pos}
use borrow.Author.Rules.{rules}
use Rattle.record_findings.specs.RecordFindings.{length_finding}
use Rattle.record_findings.proofs.length_finding.Statement.{statement}
use Rattle.record_findings.proofs.length_finding.Tie as tie

returns : tie.Need-returns
unfolding length_finding
returns c =
    let due = c.bytes_of-due.ensures in
    rw (
      to_z_pos w64 (length c.before.before.before.args.packed.now) (omega arith),
      to_z_pos w64 c.bytes_of-due.result (omega (arith, due.1)),
      due.0,
      c.before.last_year_of.ensures.0,
    )

pub length_finding_spec : {M : Type 1} → statement M
length_finding_spec =
    tie.close (tie.spec (λ c κs. search rules) (λ c κs. search rules) (λ c. search rules) (λ c. search rules) returns)
