-- A cell of more than 20 bytes is cut. Assumes nothing.
use mathlib.Core.Path.{sym}
use native.Mathlib.Omega.{arith}
use lib.Seq.{length-take-le}
use Rattle.composing.proofs.Puts.{put_same}
use Rattle.inflation_wording.proofs.Words.{shown_cut, shown_whole}
use borrow.Author.Rules.{rules}
use Rattle.inflation_wording.proofs.put_shown.Statement.{statement}
use Rattle.inflation_wording.proofs.put_shown.Tie as tie

slice-aggregate-put-cell : tie.Need-slice_bounds-put_cell-end
slice-aggregate-put-cell c = sym (length-take-le 20 c.before.before.cell_at-cell.result.now (omega (arith, c.before.if-cell-gt20.true)))

returns : tie.Need-returns-then-cell-gt20
returns c = put_same (shown_cut _ _ _ c.before.before.before.before.before.cell_at-cell.ensures) c.before.before.put_cell.ensures

returns-2 : tie.Need-returns
returns-2 c = put_same (shown_whole _ _ _ c.before.before.before.before.before.cell_at-cell.ensures c.before.before.before.before.if-cell-gt20.false) c.before.before.put_cell-2.ensures

pub put_shown_spec : {M : Type 1} → statement M
put_shown_spec =
    tie.close
    (tie.spec
    (λ c κs. search rules)
    slice-aggregate-put-cell
    (λ c κs. search rules)
    (λ c. search rules)
    returns
    (λ c κs. search rules)
    (λ c. search rules)
    returns-2)
