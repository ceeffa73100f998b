-- These words and this table. Assumes nothing.
use Rattle.hindsight_tables.specs.Tables.{gaps_words, gaps_rows}
use borrow.Author.Rules.{rules}
use Rattle.hindsight_tables.proofs.put_gaps_rows.Statement.{statement}
use Rattle.hindsight_tables.proofs.put_gaps_rows.Tie as tie

returns : tie.Need-returns
unfolding gaps_rows gaps_words
returns c = c.before.before.put_grid.ensures

pub put_gaps_rows_spec : {M : Type 1} → statement M
put_gaps_rows_spec =
    tie.close
    (tie.spec
    (λ c. search rules)
    (λ c κs. search rules)
    (λ c. search rules)
    returns)
