-- What is left is the front of the text, and the bytes after it are spaces. Assumes nothing.
use Rattle.std.proofs.Common.{◌≡◌, ◌≤◌, length, take}
use Rattle.cells.specs.Cells.{unspaced}
use Rattle.cells.proofs.unspaced_end.Given as goal

abbrev pub invariant-loop-rest : goal.invariant-loop-rest
invariant-loop-rest l = (l.rest ≡ take (length l.rest) l.text) × ((length l.rest ≤ length l.text) × (unspaced (length l.text) l.text ≡ unspaced (length l.rest) l.text))

abbrev pub decreases-loop-rest : goal.decreases-loop-rest
decreases-loop-rest l = length l.rest
