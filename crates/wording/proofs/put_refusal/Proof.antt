-- The number, a colon and the words, one after another (put_five). Assumes nothing.
use Rattle.wording.specs.Wording.{refusal_text}
use Rattle.composing.proofs.Puts.{put_five}
use borrow.Author.Rules.{rules}
use Rattle.wording.proofs.put_refusal.Statement.{statement}
use Rattle.wording.proofs.put_refusal.Tie as tie

returns : tie.Need-returns
unfolding refusal_text
returns c =
    put_five c.before.before.before.before.before.before.before.before.before.before.before.before.before.before.before.before.before.before.before.before.before.before.put_bytes-number.ensures c.before.before.before.before.before.before.before.before.before.before.before.before.before.before.before.before.before.before.put_decimal-colon.ensures c.before.before.before.before.before.before.before.before.before.before.before.before.put_bytes-words.ensures c.before.before.before.before.before.before.before.before.put_question-end.ensures
    c.before.before.put_bytes.ensures

pub put_refusal_spec : {M : Type 1} → statement M
put_refusal_spec =
    tie.close
    (tie.spec
    (λ c κs. search rules)
    (λ c κs. search rules)
    (λ c κs. search rules)
    (λ c κs. search rules)
    (λ c κs. search rules)
    (λ c. search rules)
    returns)
