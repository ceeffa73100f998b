-- The head between the element's ends (put_three). Assumes nothing.
use Rattle.composing.proofs.Puts.{put_three}
use Rattle.web_table.specs.Web.{web_head}
use borrow.Author.Rules.{rules}
use Rattle.web_table.proofs.put_web_head.Statement.{statement}
use Rattle.web_table.proofs.put_web_head.Tie as tie

returns : tie.Need-returns
unfolding web_head
returns c = put_three c.before.before.before.before.before.before.before.before.before.before.before.before.put_bytes-text.ensures c.before.before.before.before.before.before.before.before.put_head-end.ensures c.before.before.put_bytes.ensures

pub put_web_head_spec : {M : Type 1} → statement M
put_web_head_spec =
    tie.close
    (tie.spec
    (λ c κs. search rules)
    (λ c κs. search rules)
    (λ c κs. search rules)
    (λ c. search rules)
    returns)
