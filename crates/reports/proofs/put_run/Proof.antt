-- The page of a refusal, or of the list that the engine filled. Assumes nothing.
use native.Mathlib.Omega.{arith}
use mathlib.Core.Path.{sym, ◌∙◌}
use borrow.Author.Tests.{ne_eqb}
use Rattle.rules.specs.Results.{most_entries}
use Rattle.rules.specs.Engine.{run_answer}
use Rattle.reports.specs.Report.{report_of}
use borrow.Author.Rules.{rules}
use Rattle.reports.proofs.put_run.Statement.{statement}
use Rattle.reports.proofs.put_run.Tie as tie

put-refused-page-requires : tie.Need-put_refused_page-requires
put-refused-page-requires c κs =
    let run = c.before.before.before.doonamurk_run-answer in
    let s = c.before.before.before.before.before.before.before.before.before in
    (s.requires.0, (s.requires.1, (sym run.ensures.0, omega (arith, c.before.if-answer-ne0.true))))

returns : tie.Need-returns-then-answer-ne0
unfolding report_of
returns c =
    let t = c.before.before.before.before in
    let run = t.before.before.doonamurk_run-answer in
    let s = t.before.before.before.before.before.before.before.before in
    rw (ne_eqb (run_answer s.args.year s.args.packed.now most_entries) 0 (λ z. t.if-answer-ne0.true (run.ensures.0 ∙ z))) (rw run.ensures.0 at c.before.before.put_refused_page.ensures)

put-accepted-requires : tie.Need-put_accepted-requires
put-accepted-requires c κs =
    let run = c.before.before.before.before.doonamurk_run-answer in
    let s = c.before.before.before.before.before.before.before.before.before.before in
    (s.requires.0, (s.requires.1, (omega arith, run.ensures.1.0)))

pub put_run_spec : {M : Type 1} → statement M
put_run_spec =
    tie.close
    (tie.spec
    (λ c. search rules)
    (λ c κs. search rules)
    put-refused-page-requires
    (λ c. search rules)
    returns
    put-accepted-requires
    (λ c. search rules)
    (λ c. search rules))
