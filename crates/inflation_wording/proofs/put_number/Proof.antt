-- The number, and what is due. Assumes nothing.
use Rattle.composing.proofs.Puts.{put_three}
use Rattle.inflation_wording.specs.FaultWords.{number_words}
use borrow.Author.Rules.{rules}
use Rattle.inflation_wording.proofs.put_number.Statement.{statement}
use Rattle.inflation_wording.proofs.put_number.Tie as tie

returns : tie.Need-returns
unfolding number_words
returns c = put_three c.before.before.before.before.before.before.before.before.before.before.before.before.put_number_start-due.ensures c.before.before.before.before.before.before.before.before.put_due-end.ensures c.before.before.put_bytes.ensures

pub put_number_spec : {M : Type 1} → statement M
put_number_spec =
    tie.close
    (tie.spec
    (λ c κs. search rules)
    (λ c κs. search rules)
    (λ c κs. search rules)
    (λ c. search rules)
    returns)
