-- The loop's invariant: the rows before row i are placed, and `from` is where row i starts. Assumes nothing.
use Prim.Native.Nat.{ℕ, ◌+◌, ◌-◌, ◌*◌, ◌≤◌, ◌<◌}
use native.Mathlib.Nat.{mul-one}
use native.Mathlib.Omega.{arith}
use mathlib.Core.Path.{◌≡◌, refl}
use Rattle.rules.specs.Triangle.{future_start}
use Rattle.listing.proofs.Known.{start_least, future_start_more}
use Rattle.table_cells.specs.Cells.{most_places}
use Rattle.placing.specs.Placing.{grid, Holds, future_rows}
use Rattle.placing.proofs.Placed.{future_more, cell_inside}
use Rattle.placing.proofs.place_future.Statement.{statement}
use Rattle.placing.proofs.place_future.Tie as tie

abbrev invariant-loop : tie.invariant-loop-i
invariant-loop values₀ styles₀ figures style c start k n from₀ i₀ values styles from i =
    (i ≤ n) × ((from ≡ start + future_start i) × Holds (future_rows style c start k i figures (grid values₀ styles₀)) values styles)

abbrev decreases-loop : tie.decreases-loop-i
decreases-loop values₀ styles₀ figures style c start k n from₀ i₀ values styles from i = n - i

loop-holds : tie.Need-loop-i-init invariant-loop decreases-loop
unfolding future_rows future_start
loop-holds c = (omega arith, (omega arith, (refl, refl)))

-- the row ends within the triangle, and within its row of the table
within : (l : tie.At-loop-i invariant-loop decreases-loop) → l.loop-i.i ≤ l.before.args.k → l.loop-i.from + l.loop-i.i ≤ l.before.args.start + future_start (l.before.args.k + 1)
within l h = omega (arith, start_least l.before.args.k l.loop-i.i h, l.loop-i.invariant.1.0)

inside : (l : tie.At-loop-i invariant-loop decreases-loop) → l.loop-i.i ≤ l.before.args.k → (m : ℕ) → m ≤ l.before.args.k → l.loop-i.i * l.before.args.c + m < most_places
inside l h m le = cell_inside l.before.args.k l.before.args.c l.loop-i.i m h (omega arith) l.before.requires.1.1.1

place-requires : tie.Need-place-requires invariant-loop decreases-loop
place-requires c κs =
    let l = c.before.before.before in
    (omega (arith, within l (omega arith)), (omega arith, λ m h. rw (mul-one m) (omega (arith, inside l (omega arith) (l.before.args.k + 1 - l.loop-i.i + m) (omega arith)))))

loop-again : tie.Need-loop-i-preserved invariant-loop decreases-loop
loop-again c =
    let l = c.before.before.before.before in
    let s = l.before in
    let g = grid s.args.values.now s.args.styles.now in
    let row = future_more s.args.style s.args.c s.args.start s.args.k l.loop-i.i s.args.figures.now g in (
      omega arith,
      (
        omega (arith, future_start_more l.loop-i.i, l.loop-i.invariant.1.0),
        rw (l.loop-i.invariant.1.0, l.loop-i.invariant.1.1.0, l.loop-i.invariant.1.1.1, row) at c.place.ensures,
      ),
    )

returns : tie.Need-returns invariant-loop decreases-loop
returns c =
    let e : c.before.loop-i.i ≡ c.before.before.args.k + 1 = omega arith in
    rw e at c.before.loop-i.invariant.1.1

pub place_future_spec : {M : Type 1} → statement M
place_future_spec =
    tie.close
    (tie.spec
    invariant-loop
    decreases-loop
    (λ c. omega arith)
    loop-holds
    (λ c. omega (arith, inside c.before.before.before (omega arith) 0 (omega arith)))
    (λ c. omega arith)
    (λ c. omega (arith, inside c.before.before.before (omega arith) 0 (omega arith)))
    place-requires
    (λ c. omega (arith, within c.before.before.before.before (omega arith)))
    (λ c. omega arith)
    (λ c. omega arith)
    loop-again
    returns)
