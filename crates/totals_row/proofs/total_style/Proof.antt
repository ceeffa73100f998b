-- The decimals of the first row's style and no mark, or blank. Assumes nothing.
use mathlib.Core.Path.{sym, ap, ◌∙◌}
use native.Mathlib.Omega.{arith}
use Rattle.table_cells.specs.Cells.{styled}
use borrow.Author.Rules.{rules}
use Rattle.totals_row.proofs.total_style.Statement.{statement}
use Rattle.totals_row.proofs.total_style.Tie as tie

cast-styled : tie.Need-overflow_cast-decimals_of
cast-styled c = omega (arith, c.decimals_of.ensures.1)

styled-requires : tie.Need-styled-requires
styled-requires c κs = (omega arith, omega (arith, c.decimals_of.ensures.1))

returns : tie.Need-returns-then-has_total
returns c = rw (sym c.before.before.before.has_total.ensures ∙ c.before.before.if-has_total.true) (c.styled.ensures ∙ ap (styled 0) c.before.decimals_of.ensures.0)

returns-2 : tie.Need-returns-else-has_total
returns-2 c = rw (sym c.before.has_total.ensures ∙ c.if-has_total.false)

pub total_style_spec : {M : Type 1} → statement M
total_style_spec =
    tie.close
    (tie.spec (λ c κs. search rules) (λ c κs. search rules) cast-styled styled-requires returns returns-2)
