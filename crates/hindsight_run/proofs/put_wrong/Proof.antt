-- The words and the number, one after another (put_three). Assumes nothing.
use Rattle.composing.proofs.Puts.{put_three}
use Rattle.hindsight_run.specs.Listed.{wrong_text}
use borrow.Author.Rules.{rules}
use Rattle.hindsight_run.proofs.put_wrong.Statement.{statement}
use Rattle.hindsight_run.proofs.put_wrong.Tie as tie

returns : tie.Need-returns
unfolding wrong_text
returns c =
    put_three c.before.before.before.before.before.before.before.before.before.before.before.before.put_bytes-number.ensures c.before.before.before.before.before.before.before.before.put_decimal-end.ensures
    c.before.before.put_bytes.ensures

pub put_wrong_spec : {M : Type 1} → statement M
put_wrong_spec =
    tie.close
    (tie.spec
    (λ c κs. search rules)
    (λ c κs. search rules)
    (λ c κs. search rules)
    (λ c. search rules)
    returns)
