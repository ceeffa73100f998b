-- The loop's invariant: the first m figures are placed. Assumes nothing.
use Prim.Native.Nat.{ℕ, suc, ◌+◌, ◌-◌, ◌*◌, ◌≤◌, ◌<◌}
use native.Mathlib.Omega.{arith}
use mathlib.Core.Path.{◌≡◌, refl}
use lib.IntN.{ℤ, pos}
use lib.ListN.{get_or}
use mir.Syntax.{w64}
use mir.Facts.{to_z-of_z}
use Rattle.table_cells.specs.Cells.{most_places}
use Rattle.vectors.specs.Vectors.{figure_at}
use Rattle.placing.specs.Placing.{grid, Holds, placed}
use Rattle.placing.proofs.Placed.{placed_more}
use borrow.Author.Rules.{rules, sfits_of}
use Rattle.placing.proofs.place_kinds.Statement.{statement}
use Rattle.placing.proofs.place_kinds.Tie as tie

abbrev invariant-loop : tie.invariant-loop-m
invariant-loop values₀ styles₀ figures kinds from first step start n m₀ values styles m =
    (m ≤ n) × Holds (placed (λ j. get_or kinds (from + j) 0) first step start m figures (grid values₀ styles₀)) values styles

abbrev decreases-loop : tie.decreases-loop-m
decreases-loop values₀ styles₀ figures kinds from first step start n m₀ values styles m = n - m

loop-holds : tie.Need-loop-m-init invariant-loop decreases-loop
unfolding placed
loop-holds c = (omega arith, (refl, refl))

inside : (c : tie.In-loop-m invariant-loop decreases-loop) → c.before.before.args.first + c.before.loop-m.m * c.before.before.args.step < most_places
inside c = c.before.before.requires.1.1 c.before.loop-m.m (omega arith)

loop-again : tie.Need-loop-m-preserved invariant-loop decreases-loop
loop-again c =
    let l = c.before.before.before.before.before in
    let s = l.before in
    let x = figure_at s.args.figures.now (s.args.start + l.loop-m.m) in
    let read = to_z-of_z {w = w64} {z = x} (sfits_of c.before.before.before.values-1.given) in (
      omega arith,
      rw read
          (placed_more (λ j. get_or s.args.kinds.now (s.args.from + j) 0) s.args.first s.args.step s.args.start l.loop-m.m s.args.figures.now
          (grid s.args.values.now s.args.styles.now) l.loop-m.values l.loop-m.styles l.loop-m.invariant.1),
    )

returns : tie.Need-returns invariant-loop decreases-loop
returns c =
    let e : c.before.loop-m.m ≡ c.before.before.args.n = omega arith in
    rw e at c.before.loop-m.invariant.1

pub place_kinds_spec : {M : Type 1} → statement M
place_kinds_spec =
    tie.close
    (tie.spec
    invariant-loop
    decreases-loop
    loop-holds
    (λ c. omega (arith, inside c))
    (λ c. omega (arith, inside c))
    (λ c. omega arith)
    (λ c. omega arith)
    (λ c. omega arith)
    (λ c. omega (arith, inside c.before))
    (λ c. omega (arith, inside c.before))
    (λ c. omega arith)
    (λ c. omega arith)
    (λ c. omega (arith, inside c.before.before.before.before))
    (λ c. omega arith)
    (λ c. omega arith)
    loop-again
    returns)
