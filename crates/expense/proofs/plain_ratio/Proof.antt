-- The paid total is at least 1, and M times the ULAE total fits. Assumes nothing.
use borrow.Author.Rules.{rules}
use mathlib.Core.Path.{refl}
use Rattle.rules.specs.Expense.{plain_ratio}
use Rattle.expense.proofs.plain_ratio.Statement.{statement}
use Rattle.expense.proofs.plain_ratio.Tie as tie

mul-result : tie.Need-overflow_mul-result
mul-result c = search rules

div-result : tie.Need-nonzero_div-result
div-result c = search rules

returns : tie.Need-returns
unfolding plain_ratio
returns c = refl

pub plain_ratio_spec : {M : Type 1} → statement M
plain_ratio_spec = tie.close (tie.spec mul-result div-result returns)
