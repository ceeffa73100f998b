-- The plots between the start and the end of the row (put_three), or nothing. Assumes nothing.
use Rattle.composing.proofs.Puts.{put_three, put_none}
use Rattle.parts.specs.Parts.{either, only}
use Rattle.drift_plot.specs.Drift.{drift}
use borrow.Author.Rules.{rules}
use Rattle.drift_plot.proofs.put_drift.Statement.{statement}
use Rattle.drift_plot.proofs.put_drift.Tie as tie

returns : tie.Need-returns-then-html
unfolding drift only either
returns c = rw c.before.before.before.before.before.before.before.before.before.before.before.before.if-html.true (put_three (rw c.before.before.before.before.before.before.before.before.before.before.before.before.if-html.true at c.before.before.before.before.before.before.before.before.before.before.put_beside_start-start.ensures) c.before.before.before.before.before.before.put_drift_plots-end.ensures (rw c.before.before.before.before.before.before.before.before.before.before.before.before.if-html.true at c.before.before.put_beside_end.ensures))

returns-2 : tie.Need-returns-else-html
unfolding drift only either
returns-2 c = rw c.if-html.false (put_none _ _)

pub put_drift_spec : {M : Type 1} → statement M
put_drift_spec =
    tie.close
    (tie.spec
    (λ c κs. search rules)
    (λ c κs. search rules)
    (λ c κs. search rules)
    (λ c. search rules)
    returns
    returns-2)
