-- The parts follow one another (put_three). Assumes nothing.
use Rattle.composing.proofs.Puts.{put_three}
use Rattle.hindsight_heads.specs.Heads.{setting_head}
use borrow.Author.Rules.{rules}
use Rattle.hindsight_heads.proofs.put_setting_head.Statement.{statement}
use Rattle.hindsight_heads.proofs.put_setting_head.Tie as tie

returns : tie.Need-returns
unfolding setting_head
returns c = put_three c.before.before.before.before.before.before.before.before.before.before.before.before.put_bytes-b.ensures c.before.before.before.before.before.before.before.before.put_decimal-c.ensures c.before.before.put_bytes.ensures

pub put_setting_head_spec : {M : Type 1} → statement M
put_setting_head_spec =
    tie.close
    (tie.spec
    (λ c κs. search rules)
    (λ c. search rules)
    (λ c κs. search rules)
    (λ c κs. search rules)
    (λ c. search rules)
    returns)
