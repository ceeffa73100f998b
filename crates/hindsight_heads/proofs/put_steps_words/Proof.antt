-- The parts follow one another (put_three). Assumes nothing.
use Rattle.composing.proofs.Puts.{put_three}
use Rattle.hindsight_heads.specs.Heads.{steps_words}
use borrow.Author.Rules.{rules}
use Rattle.hindsight_heads.proofs.put_steps_words.Statement.{statement}
use Rattle.hindsight_heads.proofs.put_steps_words.Tie as tie

returns : tie.Need-returns
unfolding steps_words
returns c = put_three c.before.before.before.before.before.before.before.before.before.before.before.before.put_bytes-a.ensures c.before.before.before.before.before.before.before.before.put_setting_heads-b.ensures c.before.before.put_bytes.ensures

pub put_steps_words_spec : {M : Type 1} → statement M
put_steps_words_spec =
    tie.close
    (tie.spec
    (λ c κs. search rules)
    (λ c κs. search rules)
    (λ c κs. search rules)
    (λ c. search rules)
    returns)
