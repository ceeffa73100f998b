-- The number, a colon and the words, one after another (put_five). Assumes nothing.
use Rattle.composing.proofs.Puts.{put_five}
use Rattle.refusals.specs.Refusal.{refusal_of}
use borrow.Author.Rules.{rules}
use Rattle.refusals.proofs.put_refused.Statement.{statement}
use Rattle.refusals.proofs.put_refused.Tie as tie

returns : tie.Need-returns
unfolding refusal_of
returns c =
    put_five
    c.before.before.before.before.before.before.before.before.before.before.before.before.before.before.before.before.before.before.before.before.before.before.put_bytes-number.ensures
    c.before.before.before.before.before.before.before.before.before.before.before.before.before.before.before.before.before.before.put_decimal-colon.ensures
    c.before.before.before.before.before.before.before.before.before.before.before.before.put_bytes-words.ensures
    c.before.before.before.before.before.before.before.before.put_words-end.ensures
    c.before.before.put_bytes.ensures

pub put_refused_spec : {M : Type 1} → statement M
put_refused_spec =
    tie.close
    (tie.spec
    (λ c κs. search rules)
    (λ c κs. search rules)
    (λ c κs. search rules)
    (λ c κs. search rules)
    (λ c κs. search rules)
    (λ c. search rules)
    returns)
