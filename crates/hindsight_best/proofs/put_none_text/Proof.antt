-- The words of either page. Assumes nothing.
use Rattle.hindsight_best.specs.Best.{none_text}
use borrow.Author.Rules.{rules}
use Rattle.hindsight_best.proofs.put_none_text.Statement.{statement}
use Rattle.hindsight_best.proofs.put_none_text.Tie as tie

returns : tie.Need-returns
unfolding none_text
returns c = c.before.before.put_either.ensures

pub put_none_text_spec : {M : Type 1} → statement M
put_none_text_spec =
    tie.close
    (tie.spec
    (λ c κs. search rules)
    (λ c. search rules)
    returns)
