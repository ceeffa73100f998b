-- The offset and the decimals of these entries. Assumes nothing.
use Rattle.history_tables.specs.Tables.{share_words, share_tables}
use borrow.Author.Rules.{rules}
use Rattle.history_tables.proofs.put_share_tables.Statement.{statement}
use Rattle.history_tables.proofs.put_share_tables.Tie as tie

returns : tie.Need-returns
unfolding share_tables share_words
returns c = c.before.before.put_position_tables.ensures

pub put_share_tables_spec : {M : Type 1} → statement M
put_share_tables_spec =
    tie.close
    (tie.spec
    (λ c κs. search rules)
    (λ c. search rules)
    returns)
