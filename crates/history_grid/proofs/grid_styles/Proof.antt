-- The loop's invariant: the first p places are filled. Assumes nothing.
use mathlib.Core.Path.{◌≡◌}
use mathlib.Core.List.{List}
use Prim.Native.Nat.{ℕ, ◌+◌, ◌*◌, ◌-◌, ◌/◌, ◌%◌, ◌≤◌}
use native.Mathlib.Omega.{arith}
use lib.IntN.{ℤ}
use borrow.Author.Rules.{rules}
use Rattle.rules.specs.Lists.{up_to, padded}
use Rattle.laws.proofs.Padded.{filled_none, filled_more}
use Rattle.table_cells.specs.Cells.{most_places}
use Rattle.history_grid.specs.Grid.{cell_style, grid_styles}
use Rattle.history_grid.proofs.Places.{places_most, row_few, row_inside}
use Rattle.history_grid.proofs.grid_styles.Statement.{statement}
use Rattle.history_grid.proofs.grid_styles.Tie as tie

-- place p
abbrev at_place : List ℤ → ℕ → ℕ → ℕ → ℕ → ℕ
at_place list width d from p = cell_style list width d (from + p / (width + 1)) (p % (width + 1))

abbrev invariant-loop : tie.invariant-loop-p
invariant-loop list width d from n columns places styles₀ p₀ styles p =
    (p ≤ n * (width + 1)) × (styles ≡ padded most_places 0 (up_to (at_place list width d from) p))

abbrev decreases-loop : tie.decreases-loop-p
decreases-loop list width d from n columns places styles₀ p₀ styles p = places - p

mul-places : tie.Need-overflow_mul-places invariant-loop decreases-loop
mul-places c = record { fits = omega (arith, places_most c.args.width c.args.from c.args.n c.requires.0) }

loop-holds : tie.Need-loop-p-init invariant-loop decreases-loop
loop-holds c = (omega arith, filled_none most_places 0 _)

add-cell-style : tie.Need-overflow_add-from invariant-loop decreases-loop
add-cell-style c =
    let s = c.before.before in
    let l = c.before.loop-p in
    record { fits = omega (arith, row_few s.args.width s.args.from s.args.n s.requires.0 l.p (omega arith), s.requires.0.inside) }

cell-style-requires : tie.Need-cell_style-requires invariant-loop decreases-loop
cell-style-requires c κs =
    let s = c.before.before in
    let l = c.before.loop-p in
    (row_inside s.args.width s.args.from s.args.n s.requires.0 l.p (omega arith), s.requires.1)

array-write-styles : tie.Need-bounds-styles-p invariant-loop decreases-loop
array-write-styles c =
    let s = c.before.before.before in
    let l = c.before.before.loop-p in
    omega (arith, places_most s.args.width s.args.from s.args.n s.requires.0)

add-p : tie.Need-overflow_step-p invariant-loop decreases-loop
add-p c =
    let s = c.before.before.before in
    let l = c.before.before.loop-p in
    record { fits = omega (arith, places_most s.args.width s.args.from s.args.n s.requires.0) }

loop-again : tie.Need-loop-p-preserved invariant-loop decreases-loop
loop-again c =
    let s = c.before.before.before in
    let l = c.before.before.loop-p in
    let f = at_place s.args.list.now s.args.width s.args.d s.args.from in
    (omega arith, rw (c.cell_style.ensures, l.invariant.1) (filled_more most_places 0 f l.p (omega (arith, places_most s.args.width s.args.from s.args.n s.requires.0))))

returns : tie.Need-returns invariant-loop decreases-loop
unfolding grid_styles
returns c =
    let s = c.before.before in
    let e : c.before.loop-p.p ≡ s.args.n * (s.args.width + 1) = omega arith in
    rw e at c.before.loop-p.invariant.1

pub grid_styles_spec : {M : Type 1} → statement M
grid_styles_spec =
    tie.close
    (tie.spec
    invariant-loop
    decreases-loop
    (λ c. search rules)
    mul-places
    loop-holds
    (λ c. search rules)
    add-cell-style
    (λ c. search rules)
    cell-style-requires
    array-write-styles
    add-p
    (λ c. omega arith)
    loop-again
    returns)
