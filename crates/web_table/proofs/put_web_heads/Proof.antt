-- The head over the labels and those of the columns (put_five). Assumes nothing.
use Rattle.composing.proofs.Puts.{put_five}
use Rattle.web_table.specs.Web.{web_heads}
use borrow.Author.Rules.{rules}
use Rattle.web_table.proofs.put_web_heads.Statement.{statement}
use Rattle.web_table.proofs.put_web_heads.Tie as tie

returns : tie.Need-returns
unfolding web_heads
returns c =
    put_five c.before.before.before.before.before.before.before.before.before.before.before.before.before.before.before.before.before.before.before.before.before.before.put_bytes-text.ensures c.before.before.before.before.before.before.before.before.before.before.before.before.before.before.before.before.before.before.put_line-a.ensures c.before.before.before.before.before.before.before.before.before.before.before.before.put_bytes-b.ensures c.before.before.before.before.before.before.before.before.put_web_column_heads-end.ensures c.before.before.put_bytes.ensures

pub put_web_heads_spec : {M : Type 1} → statement M
put_web_heads_spec =
    tie.close
    (tie.spec
    (λ c κs. search rules)
    (λ c κs. search rules)
    (λ c κs. search rules)
    (λ c κs. search rules)
    (λ c κs. search rules)
    (λ c. search rules)
    returns)
