-- The input's year, and its record, the part from the record's start on (record-part). Assumes nothing.
use Rattle.valuation.proofs.Inputs.{record-part}
use borrow.Author.Rules.{rules}
use Rattle.csv_report.proofs.csv.Statement.{statement}
use Rattle.csv_report.proofs.csv.Tie as tie

returns : tie.Need-returns
returns c =
    let from = c.before.before.before.before.before.before.record_start-start in
    let input = c.before.before.before.before.before.before.before.before.before.args.input.now in
    rw (c.before.before.before.before.before.year_of.ensures.0, record-part input from.result from.ensures.1) at c.before.before.put_run.ensures

pub csv_spec : {M : Type 1} → statement M
csv_spec =
    tie.close
    (tie.spec
    (λ c κs. search rules)
    (λ c κs. search rules)
    (λ c. search rules)
    (λ c. search rules)
    (λ c. search rules)
    (λ c κs. search rules)
    (λ c. search rules)
    returns)
