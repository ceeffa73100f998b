-- Nothing, or the row after the body's (put_three). Assumes nothing.
use native.Mathlib.Omega.{arith}
use borrow.Author.Tests.{eq-eqb, ne_eqb}
use lib.ListN.{length}
use Rattle.composing.proofs.Puts.{put_none, put_three}
use Rattle.web_rows.specs.Rows.{web_foot}
use borrow.Author.Rules.{rules}
use Rattle.web_rows.proofs.put_web_foot.Statement.{statement}
use Rattle.web_rows.proofs.put_web_foot.Tie as tie

put-web-row-requires : tie.Need-put_web_row-end-requires
put-web-row-requires c κs = (c.before.before.before.before.before.before.before.before.before.before.before.requires, omega arith)

returns : tie.Need-returns-then-total-eq0
unfolding web_foot
returns c = rw (eq-eqb (length c.before.before.before.before.args.total.now) 0 c.if-total-eq0.true) (put_none _ _)

returns-2 : tie.Need-returns-else-total-eq0
unfolding web_foot
returns-2 c =
    rw (ne_eqb (length c.before.before.before.before.before.before.before.before.before.before.before.before.before.before.before.before.before.before.before.before.args.total.now) 0 c.before.before.before.before.before.before.before.before.before.before.before.before.before.before.before.before.if-total-eq0.false) (put_three c.before.before.before.before.before.before.before.before.before.before.before.before.put_bytes-row.ensures c.before.before.before.before.before.before.before.before.put_web_row-end.ensures c.before.before.put_bytes.ensures)

pub put_web_foot_spec : {M : Type 1} → statement M
put_web_foot_spec =
    tie.close
    (tie.spec
    (λ c κs. search rules)
    put-web-row-requires
    (λ c κs. search rules)
    returns
    (λ c. search rules)
    returns-2)
