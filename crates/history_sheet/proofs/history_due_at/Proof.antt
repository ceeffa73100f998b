-- Place by place, as in the table. Assumes nothing.
use borrow.Author.Tests.{eq-eqb, ne_eqb}
use borrow.Author.Rules.{rules}
use native.Mathlib.Omega.{arith}
use mir.Syntax.{w64}
use mir.ValLaws.{to_z_pos}
use Rattle.sheet.specs.Table.{history_due_at}
use Rattle.history_sheet.proofs.history_due_at.Statement.{statement}
use Rattle.history_sheet.proofs.history_due_at.Tie as tie

returns : tie.Need-returns-then-place-eq0
unfolding history_due_at
returns c = rw (eq-eqb c.before.args.place 0 c.if-place-eq0.true)

returns-2 : tie.Need-returns-then-place-eq1
unfolding history_due_at
returns-2 c =
    let i = c.before.before.before.args.place in
    let found = c.increments_at.ensures in
    rw (to_z_pos w64 c.increments_at.result (omega (arith, found.1)), found.0, ne_eqb i 0 c.before.before.if-place-eq0.false, eq-eqb i 1 c.before.if-place-eq1.true)

returns-3 : tie.Need-returns-then-place-eq2
unfolding history_due_at
returns-3 c =
    let i = c.before.before.before.args.place in
    rw (ne_eqb i 0 c.before.before.if-place-eq0.false, ne_eqb i 1 c.before.if-place-eq1.false, eq-eqb i 2 c.if-place-eq2.true)

returns-4 : tie.Need-returns
unfolding history_due_at
returns-4 c =
    let e = c.before in
    let i = e.before.before.before.args.place in
    rw (ne_eqb i 0 e.before.before.if-place-eq0.false, ne_eqb i 1 e.before.if-place-eq1.false, ne_eqb i 2 e.if-place-eq2.false, c.increments_at-2.ensures.0)

pub history_due_at_spec : {M : Type 1} → statement M
history_due_at_spec =
    tie.close
    (tie.spec
    (λ c. search rules)
    (λ c. search rules)
    returns
    (λ c. search rules)
    (λ c κs. search rules)
    (λ c. search rules)
    returns-2
    (λ c. search rules)
    returns-3
    (λ c. search rules)
    (λ c κs. search rules)
    (λ c. search rules)
    (λ c. search rules)
    (λ c. search rules)
    returns-4)
