-- The label and the cells up to the last that is not blank (put_three). Assumes nothing.
use Prim.Native.Nat.{◌*◌}
use native.Mathlib.Omega.{arith}
use Rattle.composing.proofs.Puts.{put_three}
use Rattle.table_heads.proofs.Shapes.{row_room}
use Rattle.text_table.specs.Plain.{row_line}
use Rattle.text_cells.proofs.Filled.{filled_most}
use borrow.Author.Rules.{rules}
use Rattle.text_table.proofs.put_row_line.Statement.{statement}
use Rattle.text_table.proofs.put_row_line.Tie as tie

mul-p : tie.Need-overflow_mul-p
mul-p c =
    let s = c.before.before.before.before in
    omega (arith, row_room s.args.shape s.args.i s.requires.0 s.requires.1)

put-left-label-requires : tie.Need-put_left_label-cells-requires
put-left-label-requires c κs =
    let s = c.before.before.before.before.before in
    (s.requires.0.from_most, omega (arith, s.requires.1, s.requires.0.rows_most))

filled-in-requires : tie.Need-filled_in-requires
filled-in-requires c κs =
    let s = c.before.before.before.before.before.before.before.before.before in
    row_room s.args.shape s.args.i s.requires.0 s.requires.1

put-text-cells-requires : tie.Need-put_text_cells-end-requires
put-text-cells-requires c κs =
    let s = c.before.before.before.before.before.before.before.before.before.before in
    let a = s.args in
    let most = filled_most a.styles.now (a.i * a.shape.columns) a.shape.columns in
    (omega (arith, c.filled_in.ensures, most, row_room a.shape a.i s.requires.0 s.requires.1), omega (arith, c.filled_in.ensures, most, s.requires.0.columns_most))

returns : tie.Need-returns
unfolding row_line
returns c = put_three c.before.before.before.before.before.before.before.before.before.before.before.before.before.put_left_label-cells.ensures (rw c.before.before.before.before.before.before.before.before.before.filled_in.ensures at c.before.before.before.before.before.before.before.before.put_text_cells-end.ensures) c.before.before.put_bytes.ensures

pub put_row_line_spec : {M : Type 1} → statement M
put_row_line_spec =
    tie.close
    (tie.spec
    mul-p
    put-left-label-requires
    filled-in-requires
    put-text-cells-requires
    (λ c κs. search rules)
    (λ c. search rules)
    returns)
