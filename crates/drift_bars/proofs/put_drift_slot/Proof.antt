-- The bar and the label follow one another. Assumes nothing.
use Rattle.composing.proofs.Puts.{put_append}
use Rattle.drift_bars.specs.Bars.{drift_slot}
use borrow.Author.Rules.{rules}
use Rattle.drift_bars.proofs.put_drift_slot.Statement.{statement}
use Rattle.drift_bars.proofs.put_drift_slot.Tie as tie

returns : tie.Need-returns
unfolding drift_slot
returns c = put_append c.before.before.before.before.before.before.put_drift_bar-end.ensures c.before.before.put_drift_label.ensures

pub put_drift_slot_spec : {M : Type 1} → statement M
put_drift_slot_spec =
    tie.close
    (tie.spec
    (λ c κs. search rules)
    (λ c κs. search rules)
    (λ c. search rules)
    returns)
