-- The text is cut where the byte was found. Assumes nothing.
use mathlib.Core.Path.{sym}
use lib.Seq.{length-take-le}
use Rattle.scanning.specs.Parts.{among}
use Rattle.scanning.proofs.Parts.{until_is}
use Rattle.scanning.proofs.until.Goals as goal

pub slice_bounds-result-end : goal.slice_bounds-result-end
slice_bounds-result-end c = sym (length-take-le _ _ c.find-e.ensures.1)

pub returns : goal.returns
returns c =
    let a = c.args in
    until_is (among a.set.now) a.text.now c.find-e.result c.find-e.ensures.0
