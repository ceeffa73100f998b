-- The label and the cells of the row (put_five). Assumes nothing.
use native.Mathlib.Omega.{arith}
use Rattle.composing.proofs.Puts.{put_five}
use Rattle.table_heads.proofs.Shapes.{row_room}
use Rattle.web_rows.specs.Rows.{web_row}
use borrow.Author.Rules.{rules}
use Rattle.web_rows.proofs.put_web_row.Statement.{statement}
use Rattle.web_rows.proofs.put_web_row.Tie as tie

put-label-requires : tie.Need-put_label-a-requires
put-label-requires c κs =
    let s = c.before.before.before.before.before.before.before.before.before.before in
    (s.requires.0.from_most, omega (arith, s.requires.1, s.requires.0.rows_most))

mul-put-web-cells : tie.Need-overflow_mul-i
mul-put-web-cells c =
    let s = c.before.before.before.before.before.before.before.before.before.before.before.before.before.before.before.before.before.before.before.before.before in
    omega (arith, row_room s.args.shape s.args.i s.requires.0 s.requires.1)

put-web-cells-requires : tie.Need-put_web_cells-end-requires
put-web-cells-requires c κs =
    let s = c.before.before.before.before.before.before.before.before.before.before.before.before.before.before.before.before.before.before.before.before.before in
    row_room s.args.shape s.args.i s.requires.0 s.requires.1

returns : tie.Need-returns
unfolding web_row
returns c =
    put_five c.before.before.before.before.before.before.before.before.before.before.before.before.before.before.before.before.before.before.before.before.before.before.before.put_bytes-text.ensures c.before.before.before.before.before.before.before.before.before.before.before.before.before.before.before.before.before.before.before.put_label-a.ensures c.before.before.before.before.before.before.before.before.before.before.before.before.before.put_bytes-b.ensures c.before.before.before.before.before.before.before.before.put_web_cells-end.ensures c.before.before.put_bytes.ensures

pub put_web_row_spec : {M : Type 1} → statement M
put_web_row_spec =
    tie.close
    (tie.spec
    (λ c κs. search rules)
    put-label-requires
    (λ c κs. search rules)
    mul-put-web-cells
    put-web-cells-requires
    (λ c κs. search rules)
    (λ c. search rules)
    returns)
