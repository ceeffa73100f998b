-- By whether a step is fitted. Assumes nothing.
use mathlib.Core.Path.{sym, ◌∙◌}
use Rattle.hindsight_best.specs.Best.{best_sentence}
use borrow.Author.Rules.{rules}
use Rattle.hindsight_best.proofs.put_best.Statement.{statement}
use Rattle.hindsight_best.proofs.put_best.Tie as tie

returns : tie.Need-returns-then-some_fitted
unfolding best_sentence
returns c = rw (sym c.before.before.before.before.before.some_fitted.ensures ∙ c.before.before.before.before.if-some_fitted.true) c.before.before.put_best_text.ensures

returns-2 : tie.Need-returns-else-some_fitted
unfolding best_sentence
returns-2 c = rw (sym c.before.before.before.before.before.some_fitted.ensures ∙ c.before.before.before.before.if-some_fitted.false) c.before.before.put_none_text.ensures

pub put_best_spec : {M : Type 1} → statement M
put_best_spec =
    tie.close
    (tie.spec
    (λ c κs. search rules)
    (λ c κs. search rules)
    (λ c κs. search rules)
    (λ c. search rules)
    returns
    (λ c. search rules)
    returns-2)
