-- The columns are placed on a blank grid, whose numbers are small enough to be added up (body_small). Assumes nothing.
use Prim.Native.Nat.{ℕ, ◌+◌, ◌≤◌, ◌<◌}
use native.Mathlib.Omega.{arith}
use lib.ListN.{get_or}
use Rattle.totals_row.specs.Totals.{most_value}
use Rattle.placing.specs.Placing.{Grid, Holds, totalled}
use Rattle.column_table.specs.ColumnTable.{body_grid, column_grid, column_table}
use Rattle.column_table.proofs.Sizes.{each_at, body_small}
use borrow.Author.Rules.{rules}
use Rattle.column_table.proofs.put_column_table.Statement.{statement}
use Rattle.column_table.proofs.put_column_table.Tie as tie

-- column j ends before the place `top`, and has decimals below 10
ends : (s : tie.Start) (j : ℕ) → get_or s.args.starts.now j 0 + s.args.shape.rows ≤ s.requires.top
ends s = each_at (λ a. a + s.args.shape.rows ≤ s.requires.top) s.args.starts.now s.requires.within

digits : (s : tie.Start) (j : ℕ) → get_or s.args.decimals.now j 0 < 10
digits s = each_at (λ d. d < 10) s.args.decimals.now s.requires.digits

place-columns-requires : tie.Need-place_columns-requires
place-columns-requires c κs =
    let s = c.before.before.before.before.before in
    (s.requires.columns_most, (s.requires.rows_most, (omega arith, λ j h. (omega (arith, ends s j), digits s j))))

-- the grid that the columns are placed in
abbrev body : tie.Start → Grid
body s = body_grid s.args.shape.columns s.args.shape.rows s.args.starts.now s.args.decimals.now s.args.figures.now

-- the arrays hold it
held : (c : tie.After-place_columns) → Holds (body c.before.before.before.before.before.before) c.place_columns.new.values c.place_columns.new.styles
unfolding body_grid
held c = c.place_columns.ensures

fill-totals-requires : tie.Need-fill_totals-requires
fill-totals-requires c κs =
    let s = c.before.before.before.before.before.before.before.before in
    let small = body_small most_value s.requires.top s.args.shape.columns s.args.shape.rows s.args.starts.now s.args.decimals.now s.args.figures.now (ends s) s.requires.small in
    (omega arith, (s.requires.rows_least, (omega arith, λ p h. rw (held c.before.before).0 (small p))))

returns : tie.Need-returns
unfolding column_table column_grid totalled
returns c =
    let t = c.before.before.before.before.before.before.before.before in
    let h = held t.before.before.before in
    rw (t.fill_totals.ensures.0, t.fill_totals.ensures.1, h.0, h.1) at c.before.before.put_table.ensures

pub put_column_table_spec : {M : Type 1} → statement M
put_column_table_spec =
    tie.close
    (tie.spec
    place-columns-requires
    fill-totals-requires
    (λ c κs. search rules)
    (λ c. search rules)
    returns)
