-- The text is cut where the byte was found. Assumes nothing.
use Rattle.scanning.specs.Parts.{meets}
use Rattle.scanning.proofs.Parts.{from_is}
use Rattle.scanning.proofs.from.Goals as goal

pub returns : goal.returns
returns c =
    let a = c.args in
    from_is (meets a.wanted a.set.now) a.text.now c.find-e.result c.find-e.ensures.0
