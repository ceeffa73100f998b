-- The loop's invariant: the first p places are filled. Assumes nothing.
use mathlib.Core.Path.{◌≡◌}
use mathlib.Core.List.{List}
use Prim.Native.Nat.{ℕ, ◌*◌, ◌-◌, ◌/◌, ◌%◌, ◌≤◌, ◌<◌}
use native.Mathlib.Omega.{arith}
use lib.IntN.{ℤ}
use borrow.Author.Rules.{rules}
use Rattle.rules.specs.Lists.{up_to, padded}
use Rattle.laws.proofs.Padded.{filled_none, filled_more}
use Rattle.table_cells.specs.Cells.{most_places}
use Rattle.hindsight_cells.specs.Cells.{cell_style, rows_of, columns_of}
use Rattle.hindsight_cells.proofs.Sizes.{columns_least}
use Rattle.hindsight_grid.specs.Grid.{grid_styles}
use Rattle.hindsight_grid.proofs.Places.{places_most, row_few, column_few}
use Rattle.hindsight_grid.proofs.grid_styles.Statement.{statement}
use Rattle.hindsight_grid.proofs.grid_styles.Tie as tie

-- place p
abbrev at_place : List ℤ → ℕ → ℕ → ℕ → ℕ → ℕ
at_place list k n t p = cell_style list k n t (p / columns_of t k n) (p % columns_of t k n)

abbrev invariant-loop : tie.invariant-loop-p
invariant-loop list k n t columns places styles₀ p₀ styles p =
    ((columns ≡ columns_of t k n) × (places ≡ rows_of t k n * columns_of t k n)) × ((p ≤ places) × (styles ≡ padded most_places 0 (up_to (at_place list k n t) p)))

abbrev decreases-loop : tie.decreases-loop-p
decreases-loop list k n t columns places styles₀ p₀ styles p = places - p

mul-places : tie.Need-overflow_mul-places invariant-loop decreases-loop
mul-places c =
    let s = c.before.before in
    let e : c.rows_of.result * c.before.columns_of-columns.result ≡ rows_of s.args.t s.args.k s.args.n * columns_of s.args.t s.args.k s.args.n = rw (c.rows_of.ensures, c.before.columns_of-columns.ensures) in
    record { fits = omega (arith, e, places_most s.args.t s.args.k s.args.n s.requires.0 s.requires.1) }

loop-holds : tie.Need-loop-p-init invariant-loop decreases-loop
loop-holds c = ((c.before.columns_of-columns.ensures, rw (c.rows_of.ensures, c.before.columns_of-columns.ensures)), (omega arith, filled_none most_places 0 _))

div-cell-style : tie.Need-nonzero_div-p invariant-loop decreases-loop
div-cell-style c =
    let s = c.before.before.before.before in
    omega (arith, c.before.loop-p.invariant.0.0, columns_least s.args.t s.args.k s.args.n s.requires.0 s.requires.1)

rem-cell-style : tie.Need-nonzero_rem-p invariant-loop decreases-loop
rem-cell-style c =
    let s = c.before.before.before.before in
    omega (arith, c.before.loop-p.invariant.0.0, columns_least s.args.t s.args.k s.args.n s.requires.0 s.requires.1)

cell-style-requires : tie.Need-cell_style-requires invariant-loop decreases-loop
cell-style-requires c κs =
    let s = c.before.before.before.before in
    let l = c.before.loop-p in
    let inside : l.p < rows_of s.args.t s.args.k s.args.n * columns_of s.args.t s.args.k s.args.n = omega (arith, l.invariant.0.1) in
    (s.requires.0, rw c.before.before.before.columns_of-columns.ensures (row_few s.args.t s.args.k s.args.n s.requires.0 s.requires.1 l.p inside, column_few s.args.t s.args.k s.args.n s.requires.0 s.requires.1 l.p inside))

array-write-styles : tie.Need-bounds-styles-p invariant-loop decreases-loop
array-write-styles c =
    let s = c.before.before.before.before.before in
    let l = c.before.before.loop-p in
    omega (arith, l.invariant.0.1, places_most s.args.t s.args.k s.args.n s.requires.0 s.requires.1)

add-p : tie.Need-overflow_step-p invariant-loop decreases-loop
add-p c =
    let s = c.before.before.before.before.before in
    let l = c.before.before.loop-p in
    record { fits = omega (arith, l.invariant.0.1, places_most s.args.t s.args.k s.args.n s.requires.0 s.requires.1) }

loop-again : tie.Need-loop-p-preserved invariant-loop decreases-loop
loop-again c =
    let s = c.before.before.before.before.before in
    let l = c.before.before.loop-p in
    let f = at_place s.args.list.now s.args.k s.args.n s.args.t in
    let style : c.cell_style.result ≡ f l.p = rw c.before.before.before.before.columns_of-columns.ensures at c.cell_style.ensures in
    (l.invariant.0, (omega arith, rw (style, l.invariant.1.1) (filled_more most_places 0 f l.p (omega (arith, l.invariant.0.1, places_most s.args.t s.args.k s.args.n s.requires.0 s.requires.1)))))

returns : tie.Need-returns invariant-loop decreases-loop
unfolding grid_styles
returns c =
    let s = c.before.before.before.before in
    let l = c.before.loop-p in
    let e : l.p ≡ rows_of s.args.t s.args.k s.args.n * columns_of s.args.t s.args.k s.args.n = omega (arith, l.invariant.0.1) in
    rw e at l.invariant.1.1

pub grid_styles_spec : {M : Type 1} → statement M
grid_styles_spec =
    tie.close
    (tie.spec
    invariant-loop
    decreases-loop
    (λ c κs. search rules)
    (λ c κs. search rules)
    mul-places
    loop-holds
    div-cell-style
    rem-cell-style
    cell-style-requires
    array-write-styles
    add-p
    (λ c. omega arith)
    loop-again
    returns)
