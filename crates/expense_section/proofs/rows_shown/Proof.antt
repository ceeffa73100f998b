-- By the test. Assumes nothing.
use native.Mathlib.Omega.{arith}
use mathlib.Core.Path.{refl}
use Rattle.expense_section.specs.Expense.{rows_shown}
use borrow.Author.Rules.{rules}
use Rattle.expense_section.proofs.rows_shown.Statement.{statement}
use Rattle.expense_section.proofs.rows_shown.Tie as tie

returns : tie.Need-returns-then-corrected
unfolding rows_shown
returns c = rw c.if-corrected.true (refl, omega arith)

returns-2 : tie.Need-returns-else-corrected
unfolding rows_shown
returns-2 c = rw c.if-corrected.false (refl, omega arith)

pub rows_shown_spec : {M : Type 1} → statement M
rows_shown_spec =
    tie.close
    (tie.spec
    returns
    returns-2)
