-- The parts follow one another. Assumes nothing.
use Rattle.composing.proofs.Puts.{put_five}
use Rattle.page_frame.specs.Frame.{web_start}
use borrow.Author.Rules.{rules}
use Rattle.page_frame.proofs.put_web_start.Statement.{statement}
use Rattle.page_frame.proofs.put_web_start.Tie as tie

returns : tie.Need-returns
unfolding web_start
returns c =
    put_five c.before.before.before.before.before.before.before.before.before.before.before.before.before.before.before.before.before.before.before.before.before.before.put_head_start-a.ensures c.before.before.before.before.before.before.before.before.before.before.before.before.before.before.before.before.before.before.put_style-b.ensures c.before.before.before.before.before.before.before.before.before.before.before.before.put_bytes-c.ensures c.before.before.before.before.before.before.before.before.put_title-d.ensures c.before.before.put_bytes.ensures

pub put_web_start_spec : {M : Type 1} → statement M
put_web_start_spec =
    tie.close
    (tie.spec
    (λ c κs. search rules)
    (λ c κs. search rules)
    (λ c κs. search rules)
    (λ c κs. search rules)
    (λ c κs. search rules)
    (λ c. search rules)
    returns)
