-- The loop's invariant: the terms of the first i rows are added up (Adding). Assumes nothing.
use mathlib.Core.Path.{◌≡◌, refl, sym, ap, ◌∙◌}
use Prim.Native.Nat.{◌+◌, ◌*◌, ◌-◌, ◌≤◌}
use native.Mathlib.Omega.{arith}
use mir.Syntax.{w64}
use mir.Val.{of_z}
use lib.IntN.{pos}
use lib.ListN.{get_or}
use Rattle.rules.specs.Triangle.{sum_to}
use Rattle.laws.proofs.Adding.{sum_to_read, sum_to_step, step_fits}
use Rattle.table_cells.proofs.Cells.{place_room}
use Rattle.totals_row.specs.Totals.{most_value}
use Rattle.totals_row.proofs.Stores.{term, term_is, term_small, term_sum}
use borrow.Author.Rules.{rules}
use Rattle.totals_row.proofs.column_sum.Statement.{statement}
use Rattle.totals_row.proofs.column_sum.Tie as tie

abbrev invariant-loop : tie.invariant-loop-i
invariant-loop values columns rows j sum₀ i₀ sum i = (i ≤ rows) × (sum ≡ of_z w64 (sum_to (term values columns rows j) i))

abbrev decreases-loop : tie.decreases-loop-i
decreases-loop values columns rows j sum₀ i₀ sum i = rows - i

loop-holds : tie.Need-loop-i-init invariant-loop decreases-loop
unfolding sum_to
loop-holds c = (omega arith, refl)

mul-sum : tie.Need-overflow_mul-sum invariant-loop decreases-loop
mul-sum c =
    let s = c.before.before in
    omega (arith, s.requires.0, place_room c.before.loop-i.i s.args.j s.args.rows s.args.columns (omega arith) s.requires.1.1.0)

add-sum : tie.Need-overflow_add-sum invariant-loop decreases-loop
add-sum c =
    let s = c.before.before in
    omega (arith, s.requires.0, place_room c.before.loop-i.i s.args.j s.args.rows s.args.columns (omega arith) s.requires.1.1.0)

mul-sum-2 : tie.Need-offset_bounds-values-i invariant-loop decreases-loop
mul-sum-2 c =
    let s = c.before.before in
    omega (arith, s.requires.0, place_room c.before.loop-i.i s.args.j s.args.rows s.args.columns (omega arith) s.requires.1.1.0)

element-copy-out-sum : tie.Need-bounds-values-i invariant-loop decreases-loop
element-copy-out-sum c =
    let s = c.before.before in
    omega (arith, s.requires.0, place_room c.before.loop-i.i s.args.j s.args.rows s.args.columns (omega arith) s.requires.1.1.0)

add-sum-2 : tie.Need-overflow_add-sum-in-loop-i invariant-loop decreases-loop
add-sum-2 c =
    let s = c.before.before.before in
    let a = s.args in
    let i = c.before.before.loop-i.i in
    let is : get_or a.values.now (i * a.columns + a.j) (pos 0) ≡ term a.values.now a.columns a.rows a.j i = sym (term_is a.values.now a.columns a.rows a.j i s.requires.1.1.0 (omega arith)) in
    rw is (step_fits (term a.values.now a.columns a.rows a.j) most_value (term_small a.values.now a.columns a.rows a.j s.requires.1.1.1) i c.before.before.loop-i.sum-bits (omega (arith, s.requires.1.0)) c.before.before.loop-i.invariant.1)

loop-again : tie.Need-loop-i-preserved invariant-loop decreases-loop
loop-again c =
    let s = c.before.before.before in
    let a = s.args in
    let i = c.before.before.loop-i.i in
    let is : get_or a.values.now (i * a.columns + a.j) (pos 0) ≡ term a.values.now a.columns a.rows a.j i = sym (term_is a.values.now a.columns a.rows a.j i s.requires.1.1.0 (omega arith)) in
    (omega arith, rw is (ap (of_z w64) (sum_to_step (term a.values.now a.columns a.rows a.j) most_value (term_small a.values.now a.columns a.rows a.j s.requires.1.1.1) i c.before.before.loop-i.sum-bits (omega (arith, s.requires.1.0)) c.before.before.loop-i.invariant.1)))

returns : tie.Need-returns invariant-loop decreases-loop
returns c =
    let s = c.before.before in
    let a = s.args in
    let e : c.before.loop-i.i ≡ a.rows = omega arith in
    sum_to_read (term a.values.now a.columns a.rows a.j) most_value (term_small a.values.now a.columns a.rows a.j s.requires.1.1.1) a.rows c.before.loop-i.sum-bits (omega (arith, s.requires.1.0)) (rw e at c.before.loop-i.invariant.1)
    ∙ term_sum a.values.now a.columns a.rows a.j s.requires.1.1.0

pub column_sum_spec : {M : Type 1} → statement M
column_sum_spec =
    tie.close
    (tie.spec invariant-loop decreases-loop loop-holds mul-sum add-sum mul-sum-2 element-copy-out-sum add-sum-2 (λ c. search rules) (λ c. search rules) loop-again returns)
