-- By the first sum, which is bits (to_z-of_z). Assumes nothing.
use mir.Syntax.{w64}
use Rattle.question_figures.specs.QuestionFigures.{development_table}
use mir.Facts.{to_z-of_z}
use borrow.Author.Rules.{rules, sfits_of}
use Rattle.question_figures.proofs.put_development_table.Statement.{statement}
use Rattle.question_figures.proofs.put_development_table.Tie as tie

returns : tie.Need-returns-then-sum-lt1
unfolding development_table
returns c =
    let e = rw (to_z-of_z {w = w64} (sfits_of c.before.before.before.before.before.struct_told-1.given.1.1.1.0.1)) at c.before.before.before.before.if-sum-lt1.true in
    rw e c.before.before.put_sums.ensures

returns-2 : tie.Need-returns
unfolding development_table
returns-2 c =
    let e = rw (to_z-of_z {w = w64} (sfits_of c.before.before.before.before.before.struct_told-1.given.1.1.1.0.1)) at c.before.before.before.before.if-sum-lt1.false in
    rw e c.before.before.put_sums-2.ensures

pub put_development_table_spec : {M : Type 1} → statement M
put_development_table_spec =
    tie.close
    (tie.spec
    (λ c κs. search rules)
    (λ c. search rules)
    returns
    (λ c κs. search rules)
    (λ c. search rules)
    returns-2)
