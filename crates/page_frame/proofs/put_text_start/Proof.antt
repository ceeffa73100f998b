-- The parts follow one another. Assumes nothing.
use Rattle.composing.proofs.Puts.{put_append}
use Rattle.page_frame.specs.Frame.{text_start}
use borrow.Author.Rules.{rules}
use Rattle.page_frame.proofs.put_text_start.Statement.{statement}
use Rattle.page_frame.proofs.put_text_start.Tie as tie

returns : tie.Need-returns
unfolding text_start
returns c =
    put_append c.before.before.before.before.before.before.before.before.put_title-end.ensures c.before.before.put_bytes.ensures

pub put_text_start_spec : {M : Type 1} → statement M
put_text_start_spec =
    tie.close
    (tie.spec
    (λ c κs. search rules)
    (λ c κs. search rules)
    (λ c. search rules)
    returns)
