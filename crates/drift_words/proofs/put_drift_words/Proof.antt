-- The parts follow one another (put_four). Assumes nothing.
use Rattle.composing.proofs.Puts.{put_four}
use Rattle.drift_words.specs.Words.{drift_words}
use borrow.Author.Rules.{rules}
use Rattle.drift_words.proofs.put_drift_words.Statement.{statement}
use Rattle.drift_words.proofs.put_drift_words.Tie as tie

returns : tie.Need-returns
unfolding drift_words
returns c = put_four c.before.before.before.before.before.before.before.before.before.before.before.before.before.before.before.before.put_bytes-a.ensures c.before.before.before.before.before.before.before.before.before.before.before.before.put_decimal-b.ensures c.before.before.before.before.before.before.put_bytes-c.ensures c.before.before.put_axis_word.ensures

pub put_drift_words_spec : {M : Type 1} → statement M
put_drift_words_spec =
    tie.close
    (tie.spec
    (λ c κs. search rules)
    (λ c κs. search rules)
    (λ c κs. search rules)
    (λ c κs. search rules)
    (λ c. search rules)
    returns)
