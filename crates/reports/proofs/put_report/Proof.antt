-- The input's years, its title, its line and its record, by the places where they stand (Split). Assumes nothing.
use native.Mathlib.Omega.{arith}
use Rattle.titled_input.proofs.Inputs.{record-part}
use Rattle.reports.specs.Report.{report_in}
use borrow.Author.Rules.{rules}
use Rattle.reports.proofs.put_report.Statement.{statement}
use Rattle.reports.proofs.put_report.Tie as tie

put-run-requires : tie.Need-put_run-requires
put-run-requires c κs = (omega (arith, c.first_of.ensures.1), omega (arith, c.before.year_of.ensures.1))

returns : tie.Need-returns
unfolding report_in
returns c =
    let p = c.before.before.before.before.before.before.before.before.before in
    let input = p.before.before.before.args.input.now in
    let split = p.parts_of-parts.ensures in
    rw (c.before.before.before.first_of.ensures.0, c.before.before.before.before.year_of.ensures.0, split.titled, split.rated, record-part input p.parts_of-parts.result split) at c.before.before.put_run.ensures

pub put_report_spec : {M : Type 1} → statement M
put_report_spec =
    tie.close
    (tie.spec
    (λ c κs. search rules)
    (λ c. search rules)
    (λ c. search rules)
    (λ c. search rules)
    (λ c. search rules)
    (λ c. search rules)
    (λ c. search rules)
    (λ c. search rules)
    (λ c. search rules)
    (λ c. search rules)
    (λ c κs. search rules)
    (λ c κs. search rules)
    put-run-requires
    (λ c. search rules)
    returns)
