-- One part after another (put_five). Assumes nothing.
use Rattle.composing.proofs.Puts.{put_five}
use Rattle.expense_section.specs.Expense.{expense_section}
use borrow.Author.Rules.{rules}
use Rattle.expense_section.proofs.put_expense_section.Statement.{statement}
use Rattle.expense_section.proofs.put_expense_section.Tie as tie

returns : tie.Need-returns
unfolding expense_section
returns c = put_five c.before.before.before.before.before.before.before.before.before.before.before.before.before.before.before.before.before.before.before.before.put_section_start-method.ensures c.before.before.before.before.before.before.before.before.before.before.before.before.before.before.put_only-used.ensures c.before.before.before.before.before.before.before.before.before.before.put_used-table.ensures c.before.before.before.before.before.before.put_ratio_table-end.ensures c.before.before.put_section_end.ensures

pub put_expense_section_spec : {M : Type 1} → statement M
put_expense_section_spec =
    tie.close
    (tie.spec
    (λ c κs. search rules)
    (λ c κs. search rules)
    (λ c κs. search rules)
    (λ c κs. search rules)
    (λ c κs. search rules)
    (λ c. search rules)
    returns)
