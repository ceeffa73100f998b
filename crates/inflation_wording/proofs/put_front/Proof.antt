-- A refusal, or none. Assumes nothing.
use mathlib.Core.Path.{sym}
use Rattle.composing.proofs.Puts.{put_none, put_three, put_same}
use Rattle.inflation_wording.proofs.Words.{front_none, front_some}
use borrow.Author.Rules.{rules}
use Rattle.inflation_wording.proofs.put_front.Statement.{statement}
use Rattle.inflation_wording.proofs.put_front.Tie as tie

returns : tie.Need-returns-then-kind-lt20
returns c = put_same (sym (front_none _ c.if-kind-lt20.true)) (put_none _ _)

returns-2 : tie.Need-returns
returns-2 c = put_same (sym (front_some _ c.before.before.before.before.before.before.before.before.before.before.before.before.before.before.before.before.if-kind-lt20.false)) (put_three c.before.before.before.before.before.before.before.before.before.before.before.before.put_bytes-number.ensures c.before.before.before.before.before.before.before.before.put_decimal-end.ensures c.before.before.put_bytes.ensures)

pub put_front_spec : {M : Type 1} → statement M
put_front_spec =
    tie.close
    (tie.spec
    returns
    (λ c κs. search rules)
    (λ c κs. search rules)
    (λ c κs. search rules)
    (λ c. search rules)
    returns-2)
