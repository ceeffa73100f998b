-- The offset and the decimals of these entries. Assumes nothing.
use Rattle.history_tables.specs.Tables.{level_words, level_tables}
use borrow.Author.Rules.{rules}
use Rattle.history_tables.proofs.put_level_tables.Statement.{statement}
use Rattle.history_tables.proofs.put_level_tables.Tie as tie

returns : tie.Need-returns
unfolding level_tables level_words
returns c = c.before.before.put_position_tables.ensures

pub put_level_tables_spec : {M : Type 1} → statement M
put_level_tables_spec =
    tie.close
    (tie.spec
    (λ c. search rules)
    (λ c κs. search rules)
    (λ c. search rules)
    returns)
