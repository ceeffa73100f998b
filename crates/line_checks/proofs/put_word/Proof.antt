-- By the problem. Assumes nothing.
use borrow.Author.Tests.{eq-eqb, ne_eqb}
use Rattle.composing.proofs.Puts.{put_none}
use Rattle.sheet.specs.Sheet.{word_in}
use borrow.Author.Rules.{rules}
use Rattle.line_checks.proofs.put_word.Statement.{statement}
use Rattle.line_checks.proofs.put_word.Tie as tie

returns : tie.Need-returns-then-w-eq1
unfolding word_in
returns c =
    rw (eq-eqb c.before.before.before.before.before.before.before.before.before.args.w.problem 1 c.before.before.before.before.before.if-w-eq1.true, ← c.before.before.before.label_of.ensures) c.before.before.put_bytes.ensures

returns-2 : tie.Need-returns-then-w-eq3
unfolding word_in
returns-2 c =
    rw (ne_eqb c.before.before.before.before.before.before.args.w.problem 1 c.before.before.if-w-eq1.false, eq-eqb c.before.before.before.before.before.before.args.w.problem 3 c.if-w-eq3.true) (put_none _ 0)

returns-3 : tie.Need-returns
unfolding word_in
returns-3 c =
    let p = c.before.before.before.before.before.before.before.before.before.before.before.before.args.w.problem in
    rw (ne_eqb p 1 c.before.before.before.before.before.before.before.before.if-w-eq1.false, ne_eqb p 3 c.before.before.before.before.before.before.if-w-eq3.false, ← c.before.before.before.before.one_less.ensures, ← c.before.before.before.cell_at.ensures) c.before.before.put_bytes-2.ensures

pub put_word_spec : {M : Type 1} → statement M
put_word_spec =
    tie.close
    (tie.spec
    (λ c κs. search rules)
    (λ c κs. search rules)
    (λ c. search rules)
    returns
    returns-2
    (λ c κs. search rules)
    (λ c κs. search rules)
    (λ c κs. search rules)
    (λ c. search rules)
    returns-3)
