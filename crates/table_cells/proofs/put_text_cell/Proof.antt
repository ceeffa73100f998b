-- Nothing, or the number and its percent sign (put_append). Assumes nothing.
use mir.Facts.{to_z-of_z}
use borrow.Author.Tests.{eq-eqb, ne_eqb}
use Rattle.composing.proofs.Puts.{put_none, put_append}
use Rattle.table_cells.specs.Cells.{text_cell}
use borrow.Author.Rules.{rules}
use Rattle.table_cells.proofs.put_text_cell.Statement.{statement}
use Rattle.table_cells.proofs.put_text_cell.Tie as tie

returns : tie.Need-returns-then-style-eq0
unfolding text_cell
returns c = rw (eq-eqb c.before.before.args.style 0 c.if-style-eq0.true) (put_none _ _)

returns-2 : tie.Need-returns-else-style-eq0
unfolding text_cell
returns-2 c =
    let s = c.before.before.before.before.before.before.before.before.before.before.before.before in
    rw (ne_eqb s.args.style 0 c.before.before.before.before.before.before.before.before.before.before.if-style-eq0.false)
    (put_append (rw (c.before.before.before.before.before.before.before.before.decimals_of.ensures.0, to_z-of_z s.ranges.z) at c.before.before.before.before.before.before.before.put_fixed-end.ensures) (rw c.before.before.before.mark_of.ensures at c.before.before.put_percent_sign.ensures))

pub put_text_cell_spec : {M : Type 1} → statement M
put_text_cell_spec =
    tie.close
    (tie.spec (λ c κs. search rules) (λ c κs. search rules) (λ c κs. search rules) (λ c κs. search rules) returns (λ c. search rules) returns-2)
