-- `sum` adds the cells of the origin years 0, 1, .. up. Assumes nothing.
use mathlib.Core.Path.{refl, ◌∙◌}
use native.Mathlib.Omega.{arith}
use Rattle.std.proofs.Common.{rules, tests}
use Rattle.std.proofs.lemmas.Iterator.{YieldsList-from_range, YieldsList-from_map}
use Rattle.std.proofs.lemmas.Iterator.Consumers.{YieldsList-at, sum_from_yields_List, fits_from_yields_list}
use Rattle.rules.specs.History.{development_years}
use Rattle.history_cells.proofs.Starts.{all_years, cells_fit}
use Rattle.history_cells.proofs.cells_of.Goals as goal

pub sum-requires-clause-fits : goal.sum-requires-clause-fits
sum-requires-clause-fits c =
    fits_from_yields_list c.map.result _ (YieldsList-from_map _ (development_years c.args.years) (YieldsList-at c.map.ensures.source (YieldsList-from_range 0 c.args.years c.args.years refl (omega arith))) c.map.ensures.closure (λ x r q k. search (rules, tests)))
    (cells_fit c.args.years c.requires)

pub returns : goal.returns
returns c =
    sum_from_yields_List c.map.result c.sum.result c.sum.ensures.ran
    (YieldsList-from_map _ (development_years c.args.years) (YieldsList-at c.map.ensures.source (YieldsList-from_range 0 c.args.years c.args.years refl (omega arith))) c.map.ensures.closure (λ x r q k. search (rules, tests)))
    ∙ all_years c.args.years
