-- The parts follow one another. Assumes nothing.
use Rattle.composing.proofs.Puts.{put_append, put_five}
use Rattle.history_refusals.specs.Refusals.{number_text}
use borrow.Author.Rules.{rules}
use Rattle.history_refusals.proofs.put_number_text.Statement.{statement}
use Rattle.history_refusals.proofs.put_number_text.Tie as tie

returns : tie.Need-returns
unfolding number_text
returns c =
    put_append c.before.before.before.before.before.before.before.before.before.before.before.before.before.before.before.before.before.before.before.before.before.before.before.before.before.before.before.before.before.before.put_only-a.ensures (put_five c.before.before.before.before.before.before.before.before.before.before.before.before.before.before.before.before.before.before.before.before.before.before.before.before.put_bytes-b.ensures c.before.before.before.before.before.before.before.before.before.before.before.before.before.before.before.before.before.before.before.before.put_decimal-c.ensures c.before.before.before.before.before.before.before.before.before.before.before.before.before.before.put_bytes-d.ensures c.before.before.before.before.before.before.before.before.before.before.put_question-e.ensures c.before.before.put_either.ensures)

pub put_number_text_spec : {M : Type 1} → statement M
put_number_text_spec =
    tie.close
    (tie.spec
    (λ c κs. search rules)
    (λ c κs. search rules)
    (λ c κs. search rules)
    (λ c κs. search rules)
    (λ c κs. search rules)
    (λ c κs. search rules)
    (λ c. search rules)
    returns)
