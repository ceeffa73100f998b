-- These words and this table. Assumes nothing.
use Rattle.hindsight_tables.specs.Tables.{settings_words, settings_rows}
use borrow.Author.Rules.{rules}
use Rattle.hindsight_tables.proofs.put_settings_rows.Statement.{statement}
use Rattle.hindsight_tables.proofs.put_settings_rows.Tie as tie

returns : tie.Need-returns
unfolding settings_rows settings_words
returns c = c.before.before.put_grid.ensures

pub put_settings_rows_spec : {M : Type 1} → statement M
put_settings_rows_spec =
    tie.close
    (tie.spec
    (λ c κs. search rules)
    (λ c. search rules)
    returns)
