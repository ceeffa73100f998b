-- The parts follow one another. Assumes nothing.
use Rattle.composing.proofs.Puts.{put_five}
use Rattle.page_frame.specs.Frame.{head_start}
use borrow.Author.Rules.{rules}
use Rattle.page_frame.proofs.put_head_start.Statement.{statement}
use Rattle.page_frame.proofs.put_head_start.Tie as tie

returns : tie.Need-returns
unfolding head_start
returns c =
    put_five c.before.before.before.before.before.before.before.before.before.before.before.before.before.before.before.before.before.before.before.before.put_bytes-a.ensures c.before.before.before.before.before.before.before.before.before.before.before.before.before.before.before.before.put_title-b.ensures c.before.before.before.before.before.before.before.before.before.before.put_bytes-c.ensures c.before.before.before.before.before.before.put_bytes-d.ensures c.before.before.put_decimal.ensures

pub put_head_start_spec : {M : Type 1} → statement M
put_head_start_spec =
    tie.close
    (tie.spec
    (λ c κs. search rules)
    (λ c κs. search rules)
    (λ c κs. search rules)
    (λ c κs. search rules)
    (λ c κs. search rules)
    (λ c. search rules)
    returns)
