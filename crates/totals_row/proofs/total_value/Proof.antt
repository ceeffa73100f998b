-- The sum, or 0. Assumes nothing.
use mir.Syntax.{w64}
use mathlib.Core.Path.{sym, ◌∙◌}
use mir.Facts.{to_z-of_z}
use borrow.Author.Rules.{rules, sfits_of}
use Rattle.totals_row.specs.Totals.{total_value}
use Rattle.totals_row.proofs.total_value.Statement.{statement}
use Rattle.totals_row.proofs.total_value.Tie as tie

column-sum-requires : tie.Need-column_sum-requires
column-sum-requires c κs = c.before.before.requires

returns : tie.Need-returns-then-has_total
unfolding total_value
returns c = rw (sym c.before.before.has_total.ensures ∙ c.before.if-has_total.true) (to_z-of_z {w = w64} (sfits_of c.column_sum.type_inv) ∙ c.column_sum.ensures)

returns-2 : tie.Need-returns-else-has_total
unfolding total_value
returns-2 c = rw (sym c.before.has_total.ensures ∙ c.if-has_total.false)

pub total_value_spec : {M : Type 1} → statement M
total_value_spec =
    tie.close
    (tie.spec (λ c κs. search rules) column-sum-requires returns returns-2)
