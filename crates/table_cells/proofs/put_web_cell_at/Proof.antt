-- A value of the array is what it was read as (to_z-of_z). Assumes nothing.
use lib.IntN.{pos}
use lib.ListN.{get_or}
use mir.Facts.{to_z-of_z}
use mir.Syntax.{w64}
use borrow.Author.Rules.{rules, sfits_of}
use Rattle.table_cells.proofs.put_web_cell_at.Statement.{statement}
use Rattle.table_cells.proofs.put_web_cell_at.Tie as tie

returns : tie.Need-returns
returns c =
    let s = c.before.before.before.before.before.before.before.before in
    let kept = to_z-of_z {w = w64} {z = get_or s.args.values.now s.args.p (pos 0)} (sfits_of c.before.before.before.put_web_cell-arg-3-1.given) in
    rw kept at c.before.before.put_web_cell.ensures

pub put_web_cell_at_spec : {M : Type 1} → statement M
put_web_cell_at_spec =
    tie.close
    (tie.spec (λ c. search rules) (λ c. search rules) (λ c. search rules) (λ c κs. search rules) (λ c. search rules) returns)
