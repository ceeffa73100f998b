-- The words of question 29 or those of the number. Assumes nothing.
use Rattle.std.proofs.Common.{eq-eqb}
use borrow.Author.Tests.{ne_eqb}
use Rattle.hindsight_run.specs.Listed.{refused_text}
use Rattle.hindsight_run.proofs.put_refused.Goals as goal

pub returns-then-n-eq29 : goal.returns-then-n-eq29
unfolding refused_text
returns-then-n-eq29 c = rw (eq-eqb c.args.n 29 c.if-n-eq29.true) c.put_bytes.ensures

pub returns-else-n-eq29 : goal.returns-else-n-eq29
unfolding refused_text
returns-else-n-eq29 c = rw (ne_eqb c.args.n 29 c.if-n-eq29.false) c.put_refusal.ensures
