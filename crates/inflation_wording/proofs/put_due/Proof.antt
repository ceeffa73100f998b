-- A year, or a rate by what is asked. Assumes nothing.
use Rattle.composing.proofs.Puts.{put_append, put_same}
use Rattle.inflation_wording.proofs.Words.{due_year, due_limits, due_form}
use borrow.Author.Rules.{rules}
use Rattle.inflation_wording.proofs.put_due.Statement.{statement}
use Rattle.inflation_wording.proofs.put_due.Tie as tie

returns : tie.Need-returns-then-n-eq3
returns c = put_same (due_year _ _ _ c.before.before.before.before.before.before.before.before.before.before.if-n-eq3.true) (put_append c.before.before.before.before.before.before.put_bytes-end.ensures c.before.before.put_decimal.ensures)

returns-2 : tie.Need-returns-then-asked
returns-2 c = put_same (due_limits _ _ _ c.before.before.before.before.before.before.before.if-n-eq3.false c.before.before.before.before.before.before.if-asked.true) c.before.before.put_bytes.ensures

returns-3 : tie.Need-returns
returns-3 c = put_same (due_form _ _ _ c.before.before.before.before.before.before.before.if-n-eq3.false c.before.before.before.before.before.before.if-asked.false) c.before.before.put_bytes-2.ensures

pub put_due_spec : {M : Type 1} → statement M
put_due_spec =
    tie.close
    (tie.spec
    (λ c κs. search rules)
    (λ c κs. search rules)
    (λ c. search rules)
    returns
    (λ c κs. search rules)
    (λ c. search rules)
    returns-2
    (λ c κs. search rules)
    (λ c. search rules)
    returns-3)
