-- The bars and the label follow one another. Assumes nothing.
use native.Mathlib.Omega.{arith}
use Rattle.composing.proofs.Puts.{put_append}
use Rattle.axis.specs.Axis.{foot_line}
use Rattle.plot.specs.Plot.{slot}
use borrow.Author.Rules.{rules}
use Rattle.plot.proofs.put_slot.Statement.{statement}
use Rattle.plot.proofs.put_slot.Tie as tie

add-put-slot-label : tie.Need-overflow_add-foot_line
unfolding foot_line
add-put-slot-label c = record { fits = omega (arith, c.foot_line.ensures, c.before.before.before.before.before.before.before.requires.0.1.high) }

returns : tie.Need-returns
unfolding slot
returns c = put_append c.before.before.before.before.before.before.before.put_slot_bars-end.ensures (rw c.before.before.before.foot_line.ensures at c.before.before.put_slot_label.ensures)

pub put_slot_spec : {M : Type 1} → statement M
put_slot_spec =
    tie.close
    (tie.spec
    (λ c. search rules)
    (λ c κs. search rules)
    (λ c. search rules)
    (λ c. search rules)
    (λ c. search rules)
    (λ c κs. search rules)
    add-put-slot-label
    (λ c κs. search rules)
    (λ c. search rules)
    returns)
