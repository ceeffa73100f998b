-- By the test. Assumes nothing.
use Rattle.expense_section.specs.Expense.{used_text}
use borrow.Author.Rules.{rules}
use Rattle.expense_section.proofs.put_used.Statement.{statement}
use Rattle.expense_section.proofs.put_used.Tie as tie

returns : tie.Need-returns-then-corrected
unfolding used_text
returns c = rw c.before.before.before.before.before.before.if-corrected.true c.before.before.put_only.ensures

returns-2 : tie.Need-returns-else-corrected
unfolding used_text
returns-2 c = rw c.before.before.before.before.before.before.if-corrected.false c.before.before.put_only-else-corrected.ensures

pub put_used_spec : {M : Type 1} → statement M
put_used_spec =
    tie.close
    (tie.spec
    (λ c κs. search rules)
    (λ c κs. search rules)
    (λ c. search rules)
    returns
    (λ c. search rules)
    returns-2)
