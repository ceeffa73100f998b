-- By whether it is one. Assumes nothing.
use borrow.Author.Tests.{eq-eqb, ne_eqb}
use Rattle.composing.proofs.Puts.{put_append}
use borrow.Author.Rules.{rules}
use Rattle.sheet_wording.proofs.put_count.Statement.{statement}
use Rattle.sheet_wording.proofs.put_count.Tie as tie

returns : tie.Need-returns-then-n-eq1
returns c =
    put_append c.before.before.before.before.before.before.before.put_decimal-end.ensures (rw (eq-eqb c.before.before.before.before.before.before.before.before.before.before.before.before.args.n 1 c.before.before.before.before.if-n-eq1.true) c.before.before.put_bytes.ensures)

returns-2 : tie.Need-returns
returns-2 c =
    put_append c.before.before.before.before.before.before.before.put_decimal-end.ensures (rw (ne_eqb c.before.before.before.before.before.before.before.before.before.before.before.before.args.n 1 c.before.before.before.before.if-n-eq1.false) c.before.before.put_bytes-2.ensures)

pub put_count_spec : {M : Type 1} → statement M
put_count_spec =
    tie.close
    (tie.spec
    (λ c κs. search rules)
    (λ c κs. search rules)
    (λ c. search rules)
    returns
    (λ c κs. search rules)
    (λ c. search rules)
    returns-2)
