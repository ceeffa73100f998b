-- The spaces in front and at the end are cut. Assumes nothing.
use mathlib.Core.Path.{sym}
use lib.Seq.{length-take-le}
use Rattle.cells.specs.Cells.{trimmed}
use borrow.Author.Rules.{rules}
use Rattle.cells.proofs.trimmed_of.Statement.{statement}
use Rattle.cells.proofs.trimmed_of.Tie as tie

slice-aggregate-result : tie.Need-slice_bounds-result-end
slice-aggregate-result c = sym (length-take-le _ _ c.unspaced_end-e.ensures.1)

returns : tie.Need-returns
unfolding trimmed
returns c = rw (c.unspaced_end-e.ensures.0, c.before.from-text.ensures)

pub trimmed_of_spec : {M : Type 1} → statement M
trimmed_of_spec =
    tie.close
    (tie.spec
    (λ c κs. search rules)
    (λ c κs. search rules)
    slice-aggregate-result
    returns)
