-- A forecast stands in a step (forecast_inside). Assumes nothing.
use mir.Syntax.{w64}
use mathlib.Core.Path.{sym, ◌∙◌}
use native.Mathlib.Omega.{arith}
use mir.Facts.{to_z-of_z}
use borrow.Author.Rules.{rules, sfits_of}
use Rattle.hindsight_cells.specs.Cells.{gap_value}
use Rattle.hindsight_cells.proofs.Sizes.{forecast_inside}
use Rattle.hindsight_cells.proofs.gap_value.Statement.{statement}
use Rattle.hindsight_cells.proofs.gap_value.Tie as tie

gap-of-requires : tie.Need-gap_of-requires
gap-of-requires c κs =
    let s = c.before.before in
    let f = forecast_inside s.args.k s.args.i s.args.j (sym c.before.is_forecast.ensures ∙ c.if-is_forecast.true) in
    (s.requires.0, ((s.requires.1.0, (omega arith, f.1)), (omega arith, omega arith)))

returns : tie.Need-returns-then-is_forecast
unfolding gap_value
returns c = rw (sym c.before.before.is_forecast.ensures ∙ c.before.if-is_forecast.true) (to_z-of_z {w = w64} (sfits_of c.gap_of.type_inv) ∙ c.gap_of.ensures)

returns-2 : tie.Need-returns-else-is_forecast
unfolding gap_value
returns-2 c = rw (sym c.before.is_forecast.ensures ∙ c.if-is_forecast.false)

pub gap_value_spec : {M : Type 1} → statement M
gap_value_spec =
    tie.close
    (tie.spec
    (λ c κs. search rules)
    (λ c. search rules)
    (λ c. search rules)
    gap-of-requires
    returns
    returns-2)
