-- `all` asks of every increment whether it is in its range. Assumes nothing.
use mathlib.Core.Path.{sym, ◌∙◌}
use Rattle.std.proofs.Common.{rules, tests}
use Rattle.std.proofs.lemmas.Iterator.{YieldsList-from_slice}
use Rattle.std.proofs.lemmas.Iterator.Search.{all_from_yields_List}
use Rattle.rules.specs.Record.{increment, in_range}
use Rattle.laws.proofs.Library.{every_is_all}
use Rattle.given_fields.proofs.all_in_range.Goals as goal

pub returns : goal.returns
returns c =
    let xs = c.args.ps.now in
    let p = in_range increment in
    all_from_yields_List p _ _ c.all.result c.all.ensures.ran (YieldsList-from_slice xs c.iter.ensures.rest) (λ x b q k. search (rules, tests))
    ∙ sym (every_is_all p xs)
