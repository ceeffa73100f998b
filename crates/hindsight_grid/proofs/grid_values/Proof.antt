-- The loop's invariant: the first p places are filled. Assumes nothing.
use mathlib.Core.Path.{◌≡◌, ◌∙◌}
use mathlib.Core.List.{List}
use Prim.Native.Nat.{ℕ, ◌*◌, ◌-◌, ◌/◌, ◌%◌, ◌≤◌, ◌<◌}
use native.Mathlib.Omega.{arith}
use lib.IntN.{ℤ, pos}
use mir.Syntax.{w64}
use mir.Val.{to_z, of_z}
use mir.Facts.{to_z-of_z}
use borrow.Author.Rules.{rules, sfits_of}
use Rattle.rules.specs.Lists.{up_to, padded}
use Rattle.laws.proofs.Padded.{filled_none, filled_more}
use Rattle.table_cells.specs.Cells.{most_places}
use Rattle.hindsight_cells.specs.Cells.{cell_value, rows_of, columns_of}
use Rattle.hindsight_cells.proofs.Sizes.{columns_least}
use Rattle.hindsight_grid.specs.Grid.{grid_values}
use Rattle.hindsight_grid.proofs.Places.{places_most, row_few, column_few}
use Rattle.hindsight_grid.proofs.grid_values.Statement.{statement}
use Rattle.hindsight_grid.proofs.grid_values.Tie as tie

-- place p
abbrev at_place : List ℤ → List ℕ → ℕ → ℕ → ℕ → ℕ → ℕ → ℤ
at_place list settings k n a t p = cell_value list settings k n a t (p / columns_of t k n) (p % columns_of t k n)

abbrev invariant-loop : tie.invariant-loop-p
invariant-loop list settings k n a t columns places values₀ p₀ values p =
    ((columns ≡ columns_of t k n) × (places ≡ rows_of t k n * columns_of t k n)) × ((p ≤ places) × (values ≡ padded most_places (pos 0) (up_to (at_place list settings k n a t) p)))

abbrev decreases-loop : tie.decreases-loop-p
decreases-loop list settings k n a t columns places values₀ p₀ values p = places - p

mul-places : tie.Need-overflow_mul-places invariant-loop decreases-loop
mul-places c =
    let s = c.before.before in
    let e : c.rows_of.result * c.before.columns_of-columns.result ≡ rows_of s.args.t s.args.k s.args.n * columns_of s.args.t s.args.k s.args.n = rw (c.rows_of.ensures, c.before.columns_of-columns.ensures) in
    record { fits = omega (arith, e, places_most s.args.t s.args.k s.args.n s.requires.known s.requires.few) }

loop-holds : tie.Need-loop-p-init invariant-loop decreases-loop
loop-holds c = ((c.before.columns_of-columns.ensures, rw (c.rows_of.ensures, c.before.columns_of-columns.ensures)), (omega arith, filled_none most_places (pos 0) _))

div-cell-value : tie.Need-nonzero_div-p invariant-loop decreases-loop
div-cell-value c =
    let s = c.before.before.before.before in
    omega (arith, c.before.loop-p.invariant.0.0, columns_least s.args.t s.args.k s.args.n s.requires.known s.requires.few)

rem-cell-value : tie.Need-nonzero_rem-p invariant-loop decreases-loop
rem-cell-value c =
    let s = c.before.before.before.before in
    omega (arith, c.before.loop-p.invariant.0.0, columns_least s.args.t s.args.k s.args.n s.requires.known s.requires.few)

cell-value-requires : tie.Need-cell_value-requires invariant-loop decreases-loop
cell-value-requires c κs =
    let s = c.before.before.before.before in
    let l = c.before.loop-p in
    let inside : l.p < rows_of s.args.t s.args.k s.args.n * columns_of s.args.t s.args.k s.args.n = omega (arith, l.invariant.0.1) in
    (s.requires, rw c.before.before.before.columns_of-columns.ensures (row_few s.args.t s.args.k s.args.n s.requires.known s.requires.few l.p inside, column_few s.args.t s.args.k s.args.n s.requires.known s.requires.few l.p inside))

mul-values : tie.Need-offset_bounds-values-p invariant-loop decreases-loop
mul-values c =
    let s = c.before.before.before.before.before in
    let l = c.before.before.loop-p in
    record { fits = omega (arith, l.invariant.0.1, places_most s.args.t s.args.k s.args.n s.requires.known s.requires.few) }

array-set-from-values : tie.Need-bounds-values-p invariant-loop decreases-loop
array-set-from-values c =
    let s = c.before.before.before.before.before in
    let l = c.before.before.loop-p in
    omega (arith, l.invariant.0.1, places_most s.args.t s.args.k s.args.n s.requires.known s.requires.few)

add-p : tie.Need-overflow_step-p invariant-loop decreases-loop
add-p c =
    let s = c.before.before.before.before.before in
    let l = c.before.before.loop-p in
    record { fits = omega (arith, l.invariant.0.1, places_most s.args.t s.args.k s.args.n s.requires.known s.requires.few) }

loop-again : tie.Need-loop-p-preserved invariant-loop decreases-loop
loop-again c =
    let s = c.before.before.before.before.before in
    let l = c.before.before.loop-p in
    let f = at_place s.args.list.now s.args.settings.now s.args.k s.args.n s.args.a s.args.t in
    let value : to_z w64 (of_z w64 c.cell_value.result) ≡ f l.p = to_z-of_z {w = w64} (sfits_of c.cell_value.type_inv) ∙ (rw c.before.before.before.before.columns_of-columns.ensures at c.cell_value.ensures) in
    (l.invariant.0, (omega arith, rw (value, l.invariant.1.1) (filled_more most_places (pos 0) f l.p (omega (arith, l.invariant.0.1, places_most s.args.t s.args.k s.args.n s.requires.known s.requires.few)))))

returns : tie.Need-returns invariant-loop decreases-loop
unfolding grid_values
returns c =
    let s = c.before.before.before.before in
    let l = c.before.loop-p in
    let e : l.p ≡ rows_of s.args.t s.args.k s.args.n * columns_of s.args.t s.args.k s.args.n = omega (arith, l.invariant.0.1) in
    rw e at l.invariant.1.1

pub grid_values_spec : {M : Type 1} → statement M
grid_values_spec =
    tie.close
    (tie.spec
    invariant-loop
    decreases-loop
    (λ c κs. search rules)
    (λ c κs. search rules)
    mul-places
    loop-holds
    div-cell-value
    rem-cell-value
    cell-value-requires
    mul-values
    array-set-from-values
    add-p
    (λ c. omega arith)
    loop-again
    returns)
