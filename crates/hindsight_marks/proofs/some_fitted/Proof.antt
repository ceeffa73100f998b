-- Whether some mark is 0. Assumes nothing.
use Rattle.hindsight_marks.specs.Marks.{some_fitted}
use borrow.Author.Rules.{rules}
use Rattle.hindsight_marks.proofs.some_fitted.Statement.{statement}
use Rattle.hindsight_marks.proofs.some_fitted.Tie as tie

returns : tie.Need-returns
unfolding some_fitted
returns c = c.some_mark.ensures

pub some_fitted_spec : {M : Type 1} → statement M
some_fitted_spec =
    tie.close
    (tie.spec
    (λ c. search rules)
    (λ c κs. search rules)
    returns)
