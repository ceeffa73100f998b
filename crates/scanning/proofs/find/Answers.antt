-- `position` asks of every byte whether it is as wanted. Assumes nothing.
use Rattle.std.proofs.Common.{rules, tests}
use Rattle.std.specs.Prelude.{◌≡◌, position}
use Rattle.std.proofs.lemmas.Iterator.{YieldsList-from_slice}
use Rattle.std.proofs.lemmas.Iterator.Search.{position_from_yields_List}
use Rattle.scanning.specs.Parts.{meets}
use Rattle.scanning.proofs.Library.{before_is_found}
use Rattle.scanning.proofs.find.Goals as goal

pub returns : goal.returns
returns c =
    let xs = c.args.text.now in
    let p = meets c.args.wanted c.args.set.now in
    let found : c.position.result ≡ position p xs = position_from_yields_List p _ _ c.position.result c.position.ensures.ran (YieldsList-from_slice xs c.iter.ensures.rest) (λ x b q k. search (rules, tests)) in
    before_is_found p xs c.unwrap_or.result (rw (← found) c.unwrap_or.ensures)
