-- The part of the input behind its year is the record (record-part). Assumes nothing.
use borrow.Author.Rules.{rules}
use mathlib.Core.Path.{ap₂}
use Rattle.composing.proofs.Puts.{put_same}
use Rattle.valuation.proofs.Inputs.{record-part}
use Rattle.list_runs.specs.Runs.{list_text}
use Rattle.list_runs.proofs.put_list.Statement.{statement}
use Rattle.list_runs.proofs.put_list.Tie as tie

returns : tie.Need-returns
returns c =
    let year = c.before.before.before.before.before in
    let start = year.before in
    let s = start.before.before.before.args.input.now in
    put_same (ap₂ list_text year.year_of-year.ensures.0 (record-part s start.record_start-from.result start.record_start-from.ensures.1)) c.before.before.put_run.ensures

pub put_list_spec : {M : Type 1} → statement M
put_list_spec =
    tie.close
    (tie.spec
    (λ c κs. search rules)
    (λ c κs. search rules)
    (λ c. search rules)
    (λ c. search rules)
    (λ c. search rules)
    (λ c κs. search rules)
    (λ c. search rules)
    returns)
