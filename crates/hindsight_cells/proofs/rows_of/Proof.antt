-- By the table. Assumes nothing.
use borrow.Author.Tests.{eq-eqb, ne_eqb}
use Rattle.hindsight_cells.specs.Cells.{rows_of}
use borrow.Author.Rules.{rules}
use Rattle.hindsight_cells.proofs.rows_of.Statement.{statement}
use Rattle.hindsight_cells.proofs.rows_of.Tie as tie

returns : tie.Need-returns-then-t-eq-SETTINGS_TABLE
unfolding rows_of
returns c = rw (eq-eqb _ _ c.if-t-eq-SETTINGS_TABLE.true)

returns-2 : tie.Need-returns-else-t-eq-SETTINGS_TABLE
unfolding rows_of
returns-2 c = rw (ne_eqb _ _ c.if-t-eq-SETTINGS_TABLE.false)

pub rows_of_spec : {M : Type 1} → statement M
rows_of_spec =
    tie.close
    (tie.spec
    (λ c. search rules)
    returns
    returns-2)
