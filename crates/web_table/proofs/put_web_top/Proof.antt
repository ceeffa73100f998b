-- The pieces follow one another (put_append, put_five). Assumes nothing.
use Rattle.composing.proofs.Puts.{put_append, put_five}
use Rattle.web_table.specs.Web.{web_top}
use borrow.Author.Rules.{rules}
use Rattle.web_table.proofs.put_web_top.Statement.{statement}
use Rattle.web_table.proofs.put_web_top.Tie as tie

returns : tie.Need-returns
unfolding web_top
returns c =
    put_append c.before.before.before.before.before.before.before.before.before.before.before.before.before.before.before.before.before.before.before.before.before.before.before.before.before.before.before.before.before.before.before.before.before.before.put_bytes-kind.ensures
    (put_append c.before.before.before.before.before.before.before.before.before.before.before.before.before.before.before.before.before.before.before.before.before.before.before.before.before.before.before.before.put_only-style.ensures (put_five c.before.before.before.before.before.before.before.before.before.before.before.before.before.before.before.before.before.before.before.before.before.before.put_bytes-number.ensures c.before.before.before.before.before.before.before.before.before.before.before.before.before.before.before.before.before.before.put_decimal-name.ensures c.before.before.before.before.before.before.before.before.before.before.before.before.put_bytes-text.ensures c.before.before.before.before.before.before.before.before.put_line-end.ensures c.before.before.put_bytes.ensures))

pub put_web_top_spec : {M : Type 1} → statement M
put_web_top_spec =
    tie.close
    (tie.spec
    (λ c κs. search rules)
    (λ c κs. search rules)
    (λ c κs. search rules)
    (λ c κs. search rules)
    (λ c κs. search rules)
    (λ c κs. search rules)
    (λ c κs. search rules)
    (λ c. search rules)
    returns)
