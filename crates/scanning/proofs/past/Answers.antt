-- The text is cut after the byte that was found, and nothing is left where there is none. Assumes nothing.
use Rattle.scanning.specs.Parts.{among}
use Rattle.scanning.proofs.Parts.{past_is, past_end}
use Rattle.scanning.proofs.past.Goals as goal

pub returns-then-e-text : goal.returns-then-e-text
returns-then-e-text c =
    let f = c in
    let a = f.args in
    past_is (among a.set.now) a.text.now f.find-e.result f.find-e.ensures.0

pub returns-else-e-text : goal.returns-else-e-text
returns-else-e-text c =
    let f = c in
    let a = f.args in
    past_end (among a.set.now) a.text.now f.find-e.result f.find-e.ensures.0 c.if-e-text.false
