-- By the table. Assumes nothing.
use mir.Syntax.{w64}
use mathlib.Core.Path.{◌∙◌}
use Prim.Native.Nat.{◌+◌, ◌-◌, ◌<◌}
use native.Mathlib.Omega.{arith}
use mir.Facts.{to_z-of_z}
use borrow.Author.Rules.{sfits_of}
use borrow.Author.Tests.{eq-eqb, ne_eqb}
use Rattle.hindsight_cells.specs.Cells.{cell_value, rows_of, columns_of}
use Rattle.hindsight_cells.proofs.cell_value.Statement.{statement}
use Rattle.hindsight_cells.proofs.cell_value.Tie as tie

setting-value-requires : tie.Need-setting_value-requires
unfolding rows_of
setting-value-requires c κs =
    let s = c.before in
    let row : s.args.i < s.args.n = rw (eq-eqb _ _ c.if-t-eq-SETTINGS_TABLE.true) at s.requires.1.0 in
    ((s.requires.0.known, omega (arith, s.requires.0.few)), (s.requires.0.indices s.args.i row, s.requires.0.small))

step-value-requires : tie.Need-step_value-requires
unfolding rows_of columns_of
step-value-requires c κs =
    let s = c.before.before in
    let row : s.args.i < s.args.k - 1 = rw (ne_eqb _ _ c.before.if-t-eq-SETTINGS_TABLE.false) at s.requires.1.0 in
    let column : s.args.j < s.args.n + 1 = rw (ne_eqb _ _ c.before.if-t-eq-SETTINGS_TABLE.false, eq-eqb _ _ c.if-t-eq-STEPS_TABLE.true) at s.requires.1.1 in
    ((s.requires.0.known, (omega arith, omega arith)), ((s.requires.0.few, omega arith), s.requires.0.small))

gap-value-requires : tie.Need-gap_value-requires
unfolding rows_of columns_of
gap-value-requires c κs =
    let s = c.before.before in
    let row : s.args.i < s.args.k - 1 = rw (ne_eqb _ _ c.before.if-t-eq-SETTINGS_TABLE.false) at s.requires.1.0 in
    let column : s.args.j < s.args.k = rw (ne_eqb _ _ c.before.if-t-eq-SETTINGS_TABLE.false, ne_eqb _ _ c.if-t-eq-STEPS_TABLE.false) at s.requires.1.1 in
    (s.requires.0.one, (s.requires.0.known, (omega arith, column)))

returns : tie.Need-returns-then-t-eq-SETTINGS_TABLE
unfolding cell_value
returns c = rw (eq-eqb _ _ c.before.if-t-eq-SETTINGS_TABLE.true) (to_z-of_z {w = w64} (sfits_of c.setting_value.type_inv) ∙ c.setting_value.ensures)

returns-2 : tie.Need-returns-then-t-eq-STEPS_TABLE
unfolding cell_value
returns-2 c = rw (ne_eqb _ _ c.before.before.if-t-eq-SETTINGS_TABLE.false, eq-eqb _ _ c.before.if-t-eq-STEPS_TABLE.true) (to_z-of_z {w = w64} (sfits_of c.step_value.type_inv) ∙ c.step_value.ensures)

returns-3 : tie.Need-returns-else-t-eq-STEPS_TABLE
unfolding cell_value
returns-3 c = rw (ne_eqb _ _ c.before.before.if-t-eq-SETTINGS_TABLE.false, ne_eqb _ _ c.before.if-t-eq-STEPS_TABLE.false) (to_z-of_z {w = w64} (sfits_of c.gap_value.type_inv) ∙ c.gap_value.ensures)

pub cell_value_spec : {M : Type 1} → statement M
cell_value_spec =
    tie.close
    (tie.spec
    setting-value-requires
    step-value-requires
    gap-value-requires
    returns
    returns-2
    returns-3)
