-- The words and the numbers follow one another (put_four). Assumes nothing.
use Rattle.composing.proofs.Puts.{put_four}
use Rattle.shapes.specs.Shapes.{slot_label}
use borrow.Author.Rules.{rules}
use Rattle.shapes.proofs.put_slot_label.Statement.{statement}
use Rattle.shapes.proofs.put_slot_label.Tie as tie

returns : tie.Need-returns
unfolding slot_label
returns c = put_four c.before.before.before.before.before.before.before.before.before.before.before.before.before.before.before.before.before.before.before.before.put_numbered-a.ensures c.before.before.before.before.before.before.before.before.before.before.before.before.before.before.put_numbered-b.ensures c.before.before.before.before.before.before.before.before.put_numbered-c.ensures c.before.before.put_bytes.ensures

pub put_slot_label_spec : {M : Type 1} → statement M
put_slot_label_spec =
    tie.close
    (tie.spec
    (λ c κs. search rules)
    (λ c κs. search rules)
    (λ c κs. search rules)
    (λ c κs. search rules)
    (λ c. search rules)
    returns)
