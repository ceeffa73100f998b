-- By its place. Assumes nothing.
use borrow.Author.Rules.{rules}
use Rattle.inflation_line.proofs.Lines.{shape_first, shape_second, shape_third}
use Rattle.inflation_line.proofs.shape_from.Goals as goal

pub returns-in-0 : goal.returns-in-0
returns-in-0 c = shape_first _ _ _ _ c.in-0.is

pub returns-in-1 : goal.returns-in-1
returns-in-1 c = shape_second _ _ _ _ c.in-1.is

pub returns-in_default : goal.returns-in_default
returns-in_default c = shape_third _ _ _ _ (search rules) (search rules)
