-- The loop's invariant: the rows before row i are placed, and `from` is where row i starts. Assumes nothing.
use Prim.Native.Nat.{ℕ, ◌+◌, ◌-◌, ◌*◌, ◌≤◌, ◌<◌}
use native.Mathlib.Nat.{mul-one, mul-le-mul}
use native.Mathlib.Omega.{arith}
use mathlib.Core.Path.{◌≡◌, refl, ap, ◌∙◌}
use lib.ListN.{get_or}
use Rattle.rules.specs.Record.{cells}
use Rattle.rules.specs.Triangle.{row_start}
use Rattle.laws.proofs.TriangleRows.{row_room, row_within, row_start_more}
use Rattle.table_cells.specs.Cells.{most_places}
use Rattle.placing.specs.Placing.{Grid, grid, Holds, placed, past_rows}
use Rattle.placing.proofs.Placed.{past_more, cell_inside}
use Rattle.placing.proofs.place_past.Statement.{statement}
use Rattle.placing.proofs.place_past.Tie as tie

abbrev invariant-loop : tie.invariant-loop-i
invariant-loop values₀ styles₀ figures kinds c start k n from₀ i₀ values styles from i =
    (i ≤ n) × ((from ≡ row_start k i) × Holds (past_rows (λ m. get_or kinds m 0) c start k i figures (grid values₀ styles₀)) values styles)

abbrev decreases-loop : tie.decreases-loop-i
decreases-loop values₀ styles₀ figures kinds c start k n from₀ i₀ values styles from i = n - i

loop-holds : tie.Need-loop-i-init invariant-loop decreases-loop
unfolding past_rows row_start
loop-holds c = (omega arith, (refl, (refl, refl)))

-- the row ends within the triangle, and within its row of the table
within : (l : tie.At-loop-i invariant-loop decreases-loop) → l.loop-i.i ≤ l.before.args.k
    → (l.loop-i.from + (l.before.args.k + 1 - l.loop-i.i) ≤ cells l.before.args.k) × (l.loop-i.from + (l.before.args.k + 1 - l.loop-i.i) ≤ 136)
within l h =
    let s = l.before in (
      omega (arith, row_within s.args.k l.loop-i.i h, l.loop-i.invariant.1.0),
      omega (arith, row_room s.args.k l.loop-i.i s.requires.0 h, l.loop-i.invariant.1.0),
    )

inside : (l : tie.At-loop-i invariant-loop decreases-loop) → l.loop-i.i ≤ l.before.args.k → (m : ℕ) → m ≤ l.before.args.k → l.loop-i.i * l.before.args.c + m < most_places
inside l h m le = cell_inside l.before.args.k l.before.args.c l.loop-i.i m h (omega arith) l.before.requires.1.1.1

place-kinds-requires : tie.Need-place_kinds-requires invariant-loop decreases-loop
place-kinds-requires c κs =
    let l = c.before.before.before in
    let rows = within l (omega arith) in
    (omega (arith, rows.0), (rows.1, λ m h. rw (mul-one m) (inside l (omega arith) m (omega arith))))

loop-again : tie.Need-loop-i-preserved invariant-loop decreases-loop
loop-again c =
    let l = c.before.before.before.before in
    let s = l.before in
    let g = grid s.args.values.now s.args.styles.now in
    let row = past_more (λ m. get_or s.args.kinds.now m 0) s.args.c s.args.start s.args.k l.loop-i.i s.args.figures.now g in (
      omega arith,
      (
        omega (arith, row_start_more s.args.k l.loop-i.i, l.loop-i.invariant.1.0),
        rw (l.loop-i.invariant.1.0, l.loop-i.invariant.1.1.0, l.loop-i.invariant.1.1.1, row) at c.place_kinds.ensures,
      ),
    )

returns : tie.Need-returns invariant-loop decreases-loop
returns c =
    let e : c.before.loop-i.i ≡ c.before.before.args.k + 1 = omega arith in
    rw e at c.before.loop-i.invariant.1.1

pub place_past_spec : {M : Type 1} → statement M
place_past_spec =
    tie.close
    (tie.spec
    invariant-loop
    decreases-loop
    (λ c. omega arith)
    loop-holds
    (λ c. omega (arith, inside c.before.before.before (omega arith) 0 (omega arith)))
    (λ c. omega (arith, (within c.before.before.before (omega arith)).0))
    (λ c. omega arith)
    place-kinds-requires
    (λ c. omega arith)
    (λ c. omega (arith, (within c.before.before.before.before (omega arith)).1))
    (λ c. omega arith)
    (λ c. omega arith)
    loop-again
    returns)
