-- By the problem. Assumes nothing.
use borrow.Author.Tests.{eq-eqb, ne_eqb}
use Rattle.composing.proofs.Puts.{put_none}
use Rattle.history_wording.specs.Refused.{problem_front}
use borrow.Author.Rules.{rules}
use Rattle.history_wording.proofs.put_refused.Statement.{statement}
use Rattle.history_wording.proofs.put_refused.Tie as tie

returns : tie.Need-returns-then-problem-ne4
unfolding problem_front
returns c = rw (ne_eqb c.before.before.args.problem 4 c.if-problem-ne4.true) (put_none _ 0)

returns-2 : tie.Need-returns
unfolding problem_front
returns-2 c =
    rw (eq-eqb c.before.before.before.before.before.before.before.args.problem 4 c.before.before.before.before.before.if-problem-ne4.false, ← c.before.before.before.refusal_at.ensures) c.before.before.put_front.ensures

pub put_refused_spec : {M : Type 1} → statement M
put_refused_spec =
    tie.close (tie.spec returns (λ c κs. search rules) (λ c κs. search rules) (λ c. search rules) returns-2)
