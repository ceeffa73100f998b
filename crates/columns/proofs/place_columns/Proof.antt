-- The loop's invariant: the columns before column j are placed. Assumes nothing.
use Prim.Native.Nat.{ℕ, ◌+◌, ◌-◌, ◌*◌, ◌≤◌, ◌<◌}
use native.Mathlib.Omega.{arith}
use mathlib.Core.Path.{◌≡◌, refl}
use lib.ListN.{get_or}
use Rattle.placing.specs.Placing.{grid, Holds}
use Rattle.columns.specs.Columns.{columns_up_to}
use Rattle.columns.proofs.Columns.{column_more, column_inside}
use borrow.Author.Rules.{rules}
use Rattle.columns.proofs.place_columns.Statement.{statement}
use Rattle.columns.proofs.place_columns.Tie as tie

abbrev invariant-loop : tie.invariant-loop-j
invariant-loop values₀ styles₀ figures starts decimals columns rows j₀ values styles j =
    (j ≤ columns) × Holds (columns_up_to columns rows starts decimals j figures (grid values₀ styles₀)) values styles

abbrev decreases-loop : tie.decreases-loop-j
decreases-loop values₀ styles₀ figures starts decimals columns rows j₀ values styles j = columns - j

loop-holds : tie.Need-loop-j-init invariant-loop decreases-loop
unfolding columns_up_to
loop-holds c = (omega arith, (refl, refl))

styled-requires : tie.Need-styled-requires invariant-loop decreases-loop
styled-requires c κs =
    let l = c.before.before.before.before.before in
    (omega arith, (l.before.requires.1.1.1 l.loop-j.j (omega arith)).1)

place-requires : tie.Need-place-requires invariant-loop decreases-loop
place-requires c κs =
    let l = c.before.before.before.before.before.before.before.before in
    let s = l.before in (
      (s.requires.1.1.1 l.loop-j.j (omega arith)).0,
      (omega arith, λ m h. column_inside s.args.columns s.args.rows l.loop-j.j m (omega arith) h s.requires.1.1.0),
    )

loop-again : tie.Need-loop-j-preserved invariant-loop decreases-loop
loop-again c =
    let l = c.before.before.before.before.before.before.before.before.before in
    let s = l.before in
    let g = grid s.args.values.now s.args.styles.now in
    let column = column_more s.args.columns s.args.rows s.args.starts.now s.args.decimals.now l.loop-j.j s.args.figures.now g in
    (omega arith, rw (c.before.before.before.styled.ensures, l.loop-j.invariant.1.0, l.loop-j.invariant.1.1, column) at c.place.ensures)

returns : tie.Need-returns invariant-loop decreases-loop
returns c =
    let e : c.before.loop-j.j ≡ c.before.before.args.columns = omega arith in
    rw e at c.before.loop-j.invariant.1

pub place_columns_spec : {M : Type 1} → statement M
place_columns_spec =
    tie.close
    (tie.spec
    invariant-loop
    decreases-loop
    loop-holds
    (λ c. omega arith)
    styled-requires
    (λ c. omega arith)
    (λ c. omega arith)
    place-requires
    (λ c. omega arith)
    (λ c. omega arith)
    loop-again
    returns)
