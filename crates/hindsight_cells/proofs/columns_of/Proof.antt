-- By the table. Assumes nothing.
use borrow.Author.Tests.{eq-eqb, ne_eqb}
use Rattle.hindsight_cells.specs.Cells.{columns_of}
use borrow.Author.Rules.{rules}
use Rattle.hindsight_cells.proofs.columns_of.Statement.{statement}
use Rattle.hindsight_cells.proofs.columns_of.Tie as tie

returns : tie.Need-returns-then-t-eq-SETTINGS_TABLE
unfolding columns_of
returns c = rw (eq-eqb _ _ c.if-t-eq-SETTINGS_TABLE.true)

returns-2 : tie.Need-returns-then-t-eq-STEPS_TABLE
unfolding columns_of
returns-2 c = rw (ne_eqb _ _ c.before.if-t-eq-SETTINGS_TABLE.false, eq-eqb _ _ c.if-t-eq-STEPS_TABLE.true)

returns-3 : tie.Need-returns-else-t-eq-STEPS_TABLE
unfolding columns_of
returns-3 c = rw (ne_eqb _ _ c.before.if-t-eq-SETTINGS_TABLE.false, ne_eqb _ _ c.if-t-eq-STEPS_TABLE.false)

pub columns_of_spec : {M : Type 1} → statement M
columns_of_spec =
    tie.close
    (tie.spec
    (λ c. search rules)
    returns
    returns-2
    returns-3)
