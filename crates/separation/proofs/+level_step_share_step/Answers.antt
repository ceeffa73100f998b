-- The factors of the first year (first_year), and those of a year from those of the years below it (next_year). Assumes nothing.
use mathlib.Core.Path.{◌∙◌}
use native.Mathlib.Omega.{arith}
use Rattle.separation.proofs.Steps.{first_year, next_year}
use Rattle.separation.proofs.+level_step_share_step.Goals as goal

pub share_step-returns-then-h-eq0 : goal.share_step-returns-then-h-eq0
share_step-returns-then-h-eq0 t c s of corners l e =
    let a = c.args in
    c.first_year.ensures
    ∙ first_year a.k a.columns.now a.diagonals.now a.corners.now a.a a.level a.h (omega arith) c.requires.1.1.1 s of corners l e

pub share_step-returns : goal.share_step-returns
share_step-returns t c s of corners l e =
    let a = c.args in
    let next = c.running_below-next in
    rw c.share_of.ensures
    (next_year a.k a.columns.now a.diagonals.now a.corners.now a.a a.level a.h next.result c.level_step-f.result
    (omega arith) (omega arith) next.ensures.0 c.requires.1.1.1 c.level_step-f.ensures s of corners l e)
