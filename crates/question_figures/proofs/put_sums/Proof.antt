-- The words and the styles are those of the definition. Assumes nothing.
use Rattle.table_cells.specs.Cells.{styled}
use Rattle.question_figures.specs.QuestionFigures.{sums_table}
use borrow.Author.Rules.{rules}
use Rattle.question_figures.proofs.put_sums.Statement.{statement}
use Rattle.question_figures.proofs.put_sums.Tie as tie

returns : tie.Need-returns
unfolding sums_table styled
returns c =
    c.before.before.put_figures.ensures

pub put_sums_spec : {M : Type 1} → statement M
put_sums_spec =
    tie.close
    (tie.spec
    (λ c κs. search rules)
    (λ c. search rules)
    returns)
