-- The loop's invariant: the first p places are filled. Assumes nothing.
use mathlib.Core.Path.{◌≡◌, ◌∙◌}
use mathlib.Core.List.{List}
use Prim.Native.Nat.{ℕ, ◌+◌, ◌*◌, ◌-◌, ◌/◌, ◌%◌, ◌≤◌}
use native.Mathlib.Omega.{arith}
use lib.IntN.{ℤ, pos}
use mir.Syntax.{w64}
use mir.Val.{to_z, of_z}
use mir.Facts.{to_z-of_z}
use borrow.Author.Rules.{rules, sfits_of}
use Rattle.rules.specs.Lists.{up_to, padded}
use Rattle.laws.proofs.Padded.{filled_none, filled_more}
use Rattle.table_cells.specs.Cells.{most_places}
use Rattle.history_grid.specs.Grid.{cell_value, grid_values}
use Rattle.history_grid.proofs.Places.{places_most, row_few, row_inside, column_few}
use Rattle.history_grid.proofs.grid_values.Statement.{statement}
use Rattle.history_grid.proofs.grid_values.Tie as tie

-- place p
abbrev at_place : List ℤ → ℕ → ℕ → ℕ → ℕ → ℤ
at_place list width offset from p = cell_value list width offset (from + p / (width + 1)) (p % (width + 1))

abbrev invariant-loop : tie.invariant-loop-p
invariant-loop list width offset from n columns places values₀ p₀ values p =
    (p ≤ n * (width + 1)) × (values ≡ padded most_places (pos 0) (up_to (at_place list width offset from) p))

abbrev decreases-loop : tie.decreases-loop-p
decreases-loop list width offset from n columns places values₀ p₀ values p = places - p

mul-places : tie.Need-overflow_mul-places invariant-loop decreases-loop
mul-places c = record { fits = omega (arith, places_most c.args.width c.args.from c.args.n c.requires.0) }

loop-holds : tie.Need-loop-p-init invariant-loop decreases-loop
loop-holds c = (omega arith, filled_none most_places (pos 0) _)

add-cell-value : tie.Need-overflow_add-from invariant-loop decreases-loop
add-cell-value c =
    let s = c.before.before in
    let l = c.before.loop-p in
    record { fits = omega (arith, row_few s.args.width s.args.from s.args.n s.requires.0 l.p (omega arith), s.requires.0.inside) }

cell-value-requires : tie.Need-cell_value-requires invariant-loop decreases-loop
cell-value-requires c κs =
    let s = c.before.before in
    let l = c.before.loop-p in
    (row_inside s.args.width s.args.from s.args.n s.requires.0 l.p (omega arith), (s.requires.1, column_few s.args.width s.args.from s.args.n s.requires.0 l.p (omega arith)))

mul-values : tie.Need-offset_bounds-values-p invariant-loop decreases-loop
mul-values c =
    let s = c.before.before.before in
    let l = c.before.before.loop-p in
    record { fits = omega (arith, places_most s.args.width s.args.from s.args.n s.requires.0) }

array-set-from-values : tie.Need-bounds-values-p invariant-loop decreases-loop
array-set-from-values c =
    let s = c.before.before.before in
    let l = c.before.before.loop-p in
    omega (arith, places_most s.args.width s.args.from s.args.n s.requires.0)

add-p : tie.Need-overflow_step-p invariant-loop decreases-loop
add-p c =
    let s = c.before.before.before in
    let l = c.before.before.loop-p in
    record { fits = omega (arith, places_most s.args.width s.args.from s.args.n s.requires.0) }

loop-again : tie.Need-loop-p-preserved invariant-loop decreases-loop
loop-again c =
    let s = c.before.before.before in
    let l = c.before.before.loop-p in
    let f = at_place s.args.list.now s.args.width s.args.offset s.args.from in
    let value : to_z w64 (of_z w64 c.cell_value.result) ≡ f l.p = to_z-of_z {w = w64} (sfits_of c.cell_value.type_inv) ∙ c.cell_value.ensures in
    (omega arith, rw (value, l.invariant.1) (filled_more most_places (pos 0) f l.p (omega (arith, places_most s.args.width s.args.from s.args.n s.requires.0))))

returns : tie.Need-returns invariant-loop decreases-loop
unfolding grid_values
returns c =
    let s = c.before.before in
    let e : c.before.loop-p.p ≡ s.args.n * (s.args.width + 1) = omega arith in
    rw e at c.before.loop-p.invariant.1

pub grid_values_spec : {M : Type 1} → statement M
grid_values_spec =
    tie.close
    (tie.spec
    invariant-loop
    decreases-loop
    (λ c. search rules)
    mul-places
    loop-holds
    (λ c. search rules)
    add-cell-value
    (λ c. search rules)
    cell-value-requires
    mul-values
    array-set-from-values
    add-p
    (λ c. omega arith)
    loop-again
    returns)
