-- The longest of the head and the cells, and two more. Assumes nothing.
use mathlib.Core.Path.{◌≡◌, ap, ap₂, ◌∙◌}
use Prim.Native.Nat.{ℕ, ◌+◌, ◌≤◌, max}
use native.Mathlib.Omega.{arith}
use lib.ListN.{length}
use Rattle.table_cells.specs.Cells.{column_places}
use Rattle.table_cells.proofs.Lengths.{column_most}
use Rattle.table_heads.specs.Heads.{rows_in}
use Rattle.table_heads.proofs.Lengths.{head_room}
use Rattle.table_heads.proofs.Shapes.{rows_in_room}
use Rattle.column_width.specs.Width.{column_width}
use borrow.Author.Rules.{rules}
use Rattle.column_width.proofs.width_of.Statement.{statement}
use Rattle.column_width.proofs.width_of.Tie as tie

rows-in-requires : tie.Need-rows_in-requires
rows-in-requires c κs = c.before.before.requires.0.rows_most

column-places-requires : tie.Need-column_places-cells-requires
column-places-requires c κs =
    let s = c.before.before.before in
    (rw c.rows_in.ensures (rows_in_room s.args.total.now s.args.shape s.requires.0), s.requires.1)

head-length-requires : tie.Need-head_length-requires
head-length-requires c κs = omega (arith, c.before.before.before.before.requires.1, c.before.before.before.before.requires.0.columns_most)

add-result : tie.Need-overflow_add-result
add-result c =
    let a = c.before.before.before.before.before.before.args in
    let most : c.larger.result ≤ 52 + length a.words.now = omega (arith, c.larger.ensures, c.before.head_length.ensures, c.before.before.column_places-cells.ensures, head_room a.words.now a.shape a.j, column_most a.values.now a.styles.now a.shape.columns c.before.before.before.rows_in.result a.j) in
    record { fits = omega (arith, most) }

returns : tie.Need-returns
unfolding column_width
returns c =
    let a = c.before.before.before.before.before.before.args in
    let cells : c.before.before.column_places-cells.result ≡ column_places a.values.now a.styles.now a.shape.columns (rows_in a.total.now a.shape) a.j = c.before.before.column_places-cells.ensures ∙ ap (λ (n : ℕ). column_places a.values.now a.styles.now a.shape.columns n a.j) c.before.before.before.rows_in.ensures in
    ap (λ (n : ℕ). 2 + n) (c.larger.ensures ∙ ap₂ max c.before.head_length.ensures cells)

pub width_of_spec : {M : Type 1} → statement M
width_of_spec =
    tie.close
    (tie.spec rows-in-requires column-places-requires head-length-requires (λ c κs. search rules) add-result returns)
