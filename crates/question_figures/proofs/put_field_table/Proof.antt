-- The style is that of the place. Assumes nothing.
use Rattle.question_figures.specs.QuestionFigures.{field_table}
use borrow.Author.Rules.{rules}
use Rattle.question_figures.proofs.put_field_table.Statement.{statement}
use Rattle.question_figures.proofs.put_field_table.Tie as tie

returns : tie.Need-returns
unfolding field_table
returns c =
    rw c.before.before.before.before.before.before.before.before.field_style-style.ensures at c.before.before.put_figures.ensures

pub put_field_table_spec : {M : Type 1} → statement M
put_field_table_spec =
    tie.close
    (tie.spec
    (λ c κs. search rules)
    (λ c κs. search rules)
    (λ c. search rules)
    returns)
