-- The loop's invariant: the widest cell of the first i rows is known (largest_more). Assumes nothing.
use mathlib.Core.Path.{◌≡◌, ap₂, ◌∙◌}
use Prim.Native.Nat.{◌+◌, ◌*◌, ◌-◌, ◌≤◌, max}
use native.Mathlib.Omega.{arith}
use lib.ListN.{length}
use Rattle.table_cells.specs.Cells.{text_cell_at, largest, column_places}
use Rattle.table_cells.proofs.Cells.{place_room, largest_none, largest_more}
use borrow.Author.Rules.{rules}
use Rattle.table_cells.proofs.column_places.Statement.{statement}
use Rattle.table_cells.proofs.column_places.Tie as tie

abbrev invariant-loop : tie.invariant-loop-i
invariant-loop values styles columns n j most₀ i₀ most i = (i ≤ n) × (most ≡ largest (λ i. length (text_cell_at values styles (i * columns + j))) i)

abbrev decreases-loop : tie.decreases-loop-i
decreases-loop values styles columns n j most₀ i₀ most i = n - i

loop-holds : tie.Need-loop-i-init invariant-loop decreases-loop
loop-holds c = (omega arith, largest_none _)

mul-cell-length-at : tie.Need-overflow_mul-i invariant-loop decreases-loop
mul-cell-length-at c =
    let s = c.before.before in
    omega (arith, s.requires.0, place_room c.before.loop-i.i s.args.j s.args.n s.args.columns (omega arith) s.requires.1)

add-cell-length-at : tie.Need-overflow_add-i invariant-loop decreases-loop
add-cell-length-at c =
    let s = c.before.before in
    omega (arith, s.requires.0, place_room c.before.loop-i.i s.args.j s.args.n s.args.columns (omega arith) s.requires.1)

cell-length-at-requires : tie.Need-cell_length_at-requires invariant-loop decreases-loop
cell-length-at-requires c κs =
    let s = c.before.before in
    omega (arith, s.requires.0, place_room c.before.loop-i.i s.args.j s.args.n s.args.columns (omega arith) s.requires.1)

loop-again : tie.Need-loop-i-preserved invariant-loop decreases-loop
loop-again c =
    let a = c.before.before.before.before.args in
    (omega arith, c.larger-most.ensures ∙ ap₂ max c.before.before.before.loop-i.invariant.1 c.before.cell_length_at.ensures ∙ largest_more (λ i. length (text_cell_at a.values.now a.styles.now (i * a.columns + a.j))) c.before.before.before.loop-i.i)

returns : tie.Need-returns invariant-loop decreases-loop
unfolding column_places
returns c =
    let e : c.before.loop-i.i ≡ c.before.before.args.n = omega arith in
    rw e at c.before.loop-i.invariant.1

pub column_places_spec : {M : Type 1} → statement M
column_places_spec =
    tie.close
    (tie.spec invariant-loop decreases-loop loop-holds mul-cell-length-at add-cell-length-at cell-length-at-requires (λ c κs. search rules) (λ c. search rules) (λ c. search rules) loop-again returns)
