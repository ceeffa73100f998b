-- The figures are put at the first places. A signed part of a struct is bits (to_z-of_z). Assumes nothing.
use mir.Syntax.{w64}
use borrow.Author.Rules.{rules}
use Rattle.rules.specs.Lists.{padded}
use Rattle.question_figures.specs.QuestionFigures.{figure_table}
use mir.Facts.{to_z-of_z}
use borrow.Author.Rules.{rules, sfits_of}
use Rattle.question_figures.proofs.put_figures.Statement.{statement}
use Rattle.question_figures.proofs.put_figures.Tie as tie

returns : tie.Need-returns
unfolding figure_table padded
returns c =
    rw (
      to_z-of_z {w = w64} (sfits_of c.before.before.before.before.before.before.before.before.before.before.struct_told-1.given.1.1.1.0.1),
      to_z-of_z {w = w64} (sfits_of c.before.before.before.before.before.before.before.before.before.struct_told-2-1.given.1.1.1.1.0.1),
      to_z-of_z {w = w64} (sfits_of c.before.before.before.before.before.before.before.before.struct_told-3-1.given.1.1.1.1.1.0.1),
    ) at c.before.before.put_table.ensures

pub put_figures_spec : {M : Type 1} → statement M
put_figures_spec =
    tie.close
    (tie.spec
    (λ c. search rules)
    (λ c. search rules)
    (λ c. search rules)
    (λ c. search rules)
    (λ c. search rules)
    (λ c. search rules)
    (λ c κs. search rules)
    (λ c. search rules)
    returns)
