-- `all` asks of every number whether it is between the limits. Assumes nothing.
use mathlib.Core.Path.{sym, ◌∙◌}
use lib.ListN.{take}
use Rattle.std.proofs.Common.{rules, tests}
use Rattle.std.proofs.lemmas.Iterator.{YieldsList-from_slice}
use Rattle.std.proofs.lemmas.Iterator.Search.{all_from_yields_List}
use Rattle.rules.specs.Lists.{between}
use Rattle.laws.proofs.Library.{every_is_all}
use Rattle.entries.proofs.within.Goals as goal

pub returns : goal.returns
returns c =
    let xs = take c.args.n c.args.vs.now in
    let p = between c.args.least c.args.most in
    all_from_yields_List p _ _ c.all.result c.all.ensures.ran (YieldsList-from_slice xs c.iter.ensures.rest) (λ x b q k. search (rules, tests))
    ∙ sym (every_is_all p xs)
