-- A blank cell, or the number between the element's ends (put_three). Assumes nothing.
use mir.Facts.{to_z-of_z}
use borrow.Author.Tests.{eq-eqb, ne_eqb}
use Rattle.composing.proofs.Puts.{put_three}
use Rattle.table_cells.specs.Cells.{web_cell}
use borrow.Author.Rules.{rules}
use Rattle.table_cells.proofs.put_web_cell.Statement.{statement}
use Rattle.table_cells.proofs.put_web_cell.Tie as tie

returns : tie.Need-returns-then-style-eq0
unfolding web_cell
returns c = rw (eq-eqb c.before.before.before.before.before.before.before.before.args.style 0 c.before.before.before.before.before.before.if-style-eq0.true) c.before.before.put_bytes.ensures

returns-2 : tie.Need-returns-else-style-eq0
unfolding web_cell
returns-2 c =
    let s = c.before.before.before.before.before.before.before.before.before.before.before.before.before.before.before.before.before.before in
    let mark = c.before.before.before.before.before.before.before.before.before.before.before.before.before.before.before.mark_of-mark.ensures in
    rw (ne_eqb s.args.style 0 c.before.before.before.before.before.before.before.before.before.before.before.before.before.before.before.before.if-style-eq0.false)
    (put_three (rw mark at c.before.before.before.before.before.before.before.before.before.before.before.before.put_cell_start-number.ensures) (rw (mark, c.before.before.before.before.before.before.before.before.before.before.before.before.before.before.decimals_of-d.ensures.0, to_z-of_z s.ranges.z) at c.before.before.before.before.before.before.before.before.put_web_number-end.ensures) c.before.before.put_bytes-else-style-eq0.ensures)

pub put_web_cell_spec : {M : Type 1} → statement M
put_web_cell_spec =
    tie.close
    (tie.spec
    (λ c κs. search rules)
    (λ c κs. search rules)
    (λ c κs. search rules)
    (λ c κs. search rules)
    (λ c κs. search rules)
    (λ c κs. search rules)
    (λ c. search rules)
    returns
    (λ c. search rules)
    returns-2)
