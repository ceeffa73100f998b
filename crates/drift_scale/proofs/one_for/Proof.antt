-- By whether the axis is in percent. Assumes nothing.
use mathlib.Core.Path.{sym, ◌∙◌}
use Rattle.drift_scale.specs.Scales.{one_for}
use borrow.Author.Rules.{rules}
use Rattle.drift_scale.proofs.one_for.Statement.{statement}
use Rattle.drift_scale.proofs.one_for.Tie as tie

returns : tie.Need-returns-then-in_percent
unfolding one_for
returns c = rw (sym c.before.in_percent.ensures ∙ c.if-in_percent.true)

returns-2 : tie.Need-returns-else-in_percent
unfolding one_for
returns-2 c = rw (sym c.before.in_percent.ensures ∙ c.if-in_percent.false)

pub one_for_spec : {M : Type 1} → statement M
one_for_spec =
    tie.close
    (tie.spec
    (λ c κs. search rules)
    returns
    returns-2)
