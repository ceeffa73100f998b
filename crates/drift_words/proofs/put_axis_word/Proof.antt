-- One word or the other. Assumes nothing.
use Rattle.drift_words.specs.Words.{axis_word}
use borrow.Author.Rules.{rules}
use Rattle.drift_words.proofs.put_axis_word.Statement.{statement}
use Rattle.drift_words.proofs.put_axis_word.Tie as tie

returns : tie.Need-returns-then-percent
unfolding axis_word
returns c = rw c.before.before.before.before.before.before.if-percent.true c.before.before.put_bytes.ensures

returns-2 : tie.Need-returns-else-percent
unfolding axis_word
returns-2 c = rw c.before.before.before.before.before.before.if-percent.false c.before.before.put_bytes-else-percent.ensures

pub put_axis_word_spec : {M : Type 1} → statement M
put_axis_word_spec =
    tie.close
    (tie.spec
    (λ c κs. search rules)
    (λ c κs. search rules)
    (λ c. search rules)
    returns
    (λ c. search rules)
    returns-2)
