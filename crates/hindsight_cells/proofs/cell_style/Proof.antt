-- By the table. Assumes nothing.
use Prim.Native.Nat.{◌-◌, ◌<◌}
use native.Mathlib.Omega.{arith}
use borrow.Author.Rules.{rules}
use borrow.Author.Tests.{eq-eqb, ne_eqb}
use Rattle.hindsight_cells.specs.Cells.{cell_style, rows_of, columns_of}
use Rattle.hindsight_cells.proofs.cell_style.Statement.{statement}
use Rattle.hindsight_cells.proofs.cell_style.Tie as tie

step-style-requires : tie.Need-step_style-requires
unfolding rows_of
step-style-requires c κs =
    let s = c.before.before in
    let row : s.args.i < s.args.k - 1 = rw (ne_eqb _ _ c.before.if-t-eq-SETTINGS_TABLE.false) at s.requires.1.0 in
    (s.requires.0, (omega arith, omega arith))

gap-style-requires : tie.Need-gap_style-requires
unfolding rows_of columns_of
gap-style-requires c κs =
    let s = c.before.before in
    let row : s.args.i < s.args.k - 1 = rw (ne_eqb _ _ c.before.if-t-eq-SETTINGS_TABLE.false) at s.requires.1.0 in
    let column : s.args.j < s.args.k = rw (ne_eqb _ _ c.before.if-t-eq-SETTINGS_TABLE.false, ne_eqb _ _ c.if-t-eq-STEPS_TABLE.false) at s.requires.1.1 in
    (s.requires.0, (omega arith, column))

returns : tie.Need-returns-then-t-eq-SETTINGS_TABLE
unfolding cell_style
returns c = rw (eq-eqb _ _ c.before.if-t-eq-SETTINGS_TABLE.true) c.setting_style.ensures

returns-2 : tie.Need-returns-then-t-eq-STEPS_TABLE
unfolding cell_style
returns-2 c = rw (ne_eqb _ _ c.before.before.if-t-eq-SETTINGS_TABLE.false, eq-eqb _ _ c.before.if-t-eq-STEPS_TABLE.true) c.step_style.ensures

returns-3 : tie.Need-returns-else-t-eq-STEPS_TABLE
unfolding cell_style
returns-3 c = rw (ne_eqb _ _ c.before.before.if-t-eq-SETTINGS_TABLE.false, ne_eqb _ _ c.before.if-t-eq-STEPS_TABLE.false) c.gap_style.ensures

pub cell_style_spec : {M : Type 1} → statement M
cell_style_spec =
    tie.close
    (tie.spec
    (λ c κs. search rules)
    step-style-requires
    gap-style-requires
    returns
    returns-2
    returns-3)
