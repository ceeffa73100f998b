-- By the test of step 0. Assumes nothing.
use native.Mathlib.Omega.{arith}
use borrow.Author.Tests.{eq-eqb, ne_eqb}
use Rattle.shading.specs.Shading.{stepped}
use borrow.Author.Rules.{rules}
use Rattle.shading.proofs.stepped_mark.Statement.{statement}
use Rattle.shading.proofs.stepped_mark.Tie as tie

returns : tie.Need-returns-then-step-eq0
unfolding stepped
returns c = (rw (eq-eqb c.before.args.step 0 c.if-step-eq0.true), omega arith)

returns-2 : tie.Need-returns-else-step-eq0
unfolding stepped
returns-2 c = (rw (ne_eqb c.before.args.step 0 c.if-step-eq0.false), omega arith)

pub stepped_mark_spec : {M : Type 1} → statement M
stepped_mark_spec = tie.close (tie.spec (λ c. search rules) (λ c. search rules) returns returns-2)
