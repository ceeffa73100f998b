-- The levels are placed on a blank grid. Assumes nothing.
use Rattle.level_tables.specs.Levels.{level_words, level_table}
use borrow.Author.Rules.{rules}
use Rattle.level_tables.proofs.put_level_table.Statement.{statement}
use Rattle.level_tables.proofs.put_level_table.Tie as tie

returns : tie.Need-returns
unfolding level_table level_words
returns c =
    let p = c.before.before.before.before.before.before.before.before.before.before.before.before in
    rw (p.place_levels.ensures.0, p.place_levels.ensures.1) at c.before.before.put_table.ensures

pub put_level_table_spec : {M : Type 1} → statement M
put_level_table_spec =
    tie.close
    (tie.spec
    (λ c κs. search rules)
    (λ c. search rules)
    (λ c κs. search rules)
    (λ c. search rules)
    returns)
