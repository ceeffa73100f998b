-- A label under every second bar. Assumes nothing.
use native.Mathlib.Omega.{arith}
use borrow.Author.Tests.{eq-eqb, ne_eqb}
use Rattle.axis.proofs.Axis.{foot_most}
use Rattle.composing.proofs.Puts.{put_none}
use Rattle.drift_bars.specs.Bars.{drift_label}
use borrow.Author.Rules.{rules}
use Rattle.drift_bars.proofs.put_drift_label.Statement.{statement}
use Rattle.drift_bars.proofs.put_drift_label.Tie as tie

add-put-slot-label : tie.Need-overflow_add-foot_line
add-put-slot-label c = record { fits = omega (arith, c.foot_line.ensures, foot_most c.before.before.before.before.args.scale c.before.before.before.before.requires.0) }

returns : tie.Need-returns-then-a-eq0
unfolding drift_label
returns c = rw (eq-eqb _ 0 c.before.before.before.before.before.if-a-eq0.true) (rw c.before.before.before.foot_line.ensures at c.before.before.put_slot_label.ensures)

returns-2 : tie.Need-returns-else-a-eq0
unfolding drift_label
returns-2 c = rw (ne_eqb _ 0 c.if-a-eq0.false) (put_none _ _)

pub put_drift_label_spec : {M : Type 1} → statement M
put_drift_label_spec =
    tie.close
    (tie.spec
    (λ c. search rules)
    (λ c. search rules)
    (λ c κs. search rules)
    add-put-slot-label
    (λ c. search rules)
    (λ c κs. search rules)
    (λ c. search rules)
    returns
    returns-2)
