-- A forecast stands in a step (forecast_inside); by whether it is marked. Assumes nothing.
use mathlib.Core.Path.{sym, ◌∙◌}
use native.Mathlib.Omega.{arith}
use borrow.Author.Rules.{rules}
use Rattle.hindsight_cells.specs.Cells.{gap_style}
use Rattle.hindsight_cells.proofs.Sizes.{forecast_inside}
use Rattle.hindsight_cells.proofs.gap_style.Statement.{statement}
use Rattle.hindsight_cells.proofs.gap_style.Tie as tie

is-marked-requires : tie.Need-is_marked-requires
is-marked-requires c κs =
    let s = c.before.before in
    let f = forecast_inside s.args.k s.args.i s.args.j (sym c.before.is_forecast.ensures ∙ c.if-is_forecast.true) in
    (s.requires.0, (omega arith, f.1))

returns : tie.Need-returns-then-is_marked
unfolding gap_style
returns c = rw (sym c.before.before.before.is_forecast.ensures ∙ c.before.before.if-is_forecast.true, sym c.before.is_marked.ensures ∙ c.if-is_marked.true)

returns-2 : tie.Need-returns-else-is_marked
unfolding gap_style
returns-2 c = rw (sym c.before.before.before.before.is_forecast.ensures ∙ c.before.before.before.if-is_forecast.true, sym c.before.before.is_marked.ensures ∙ c.before.if-is_marked.false) c.styled.ensures

returns-3 : tie.Need-returns-else-is_forecast
unfolding gap_style
returns-3 c = rw (sym c.before.is_forecast.ensures ∙ c.if-is_forecast.false)

pub gap_style_spec : {M : Type 1} → statement M
gap_style_spec =
    tie.close
    (tie.spec
    (λ c κs. search rules)
    (λ c. search rules)
    is-marked-requires
    (λ c κs. search rules)
    returns
    returns-2
    returns-3)
