-- One after the other (put_append). Assumes nothing.
use Rattle.composing.proofs.Puts.{put_append}
use Rattle.hindsight_best.specs.Best.{best_text}
use borrow.Author.Rules.{rules}
use Rattle.hindsight_best.proofs.put_best_text.Statement.{statement}
use Rattle.hindsight_best.proofs.put_best_text.Tie as tie

returns : tie.Need-returns
unfolding best_text
returns c = put_append c.before.before.before.before.before.before.put_best_name-b.ensures c.before.before.put_best_sum.ensures

pub put_best_text_spec : {M : Type 1} → statement M
put_best_text_spec =
    tie.close
    (tie.spec
    (λ c κs. search rules)
    (λ c κs. search rules)
    (λ c. search rules)
    returns)
