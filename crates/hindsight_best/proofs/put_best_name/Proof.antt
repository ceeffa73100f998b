-- The parts follow one another (put_four). Assumes nothing.
use Rattle.composing.proofs.Puts.{put_four}
use Rattle.hindsight_best.specs.Best.{best_name}
use borrow.Author.Rules.{rules}
use Rattle.hindsight_best.proofs.put_best_name.Statement.{statement}
use Rattle.hindsight_best.proofs.put_best_name.Tie as tie

returns : tie.Need-returns
unfolding best_name
returns c = put_four c.before.before.before.before.before.before.before.before.before.before.before.before.before.before.before.before.before.before.before.before.put_either-b.ensures c.before.before.before.before.before.before.before.before.before.before.before.before.before.before.before.before.put_decimal-c.ensures c.before.before.before.before.before.before.before.before.put_either-d.ensures c.before.before.put_shown_number.ensures

pub put_best_name_spec : {M : Type 1} → statement M
put_best_name_spec =
    tie.close
    (tie.spec
    (λ c κs. search rules)
    (λ c. search rules)
    (λ c κs. search rules)
    (λ c κs. search rules)
    (λ c. search rules)
    (λ c. search rules)
    (λ c κs. search rules)
    (λ c. search rules)
    returns)
