-- The rows make the square. Assumes nothing.
use Rattle.three_years.proofs.Square.{cells}
use Rattle.three_years.proofs.averages.Goals as goal

pub returns : goal.returns
returns c = rw (c.row-3.ensures, c.row-2.ensures, c.row.ensures) cells
