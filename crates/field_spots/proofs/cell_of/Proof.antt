-- The loop's invariant: the rows before row i end before cell m, and row i starts at `start` (Cells). Assumes nothing.
use mathlib.Core.Path.{◌≡◌, refl, sym, ap, ◌∙◌}
use mathlib.Core.Bool.{true}
use Prim.Native.Nat.{ℕ, ◌+◌, ◌-◌, ◌≤◌, ◌<◌}
use native.Mathlib.Omega.{arith}
use borrow.Author.Tests.{le-leb, lt-leb}
use Rattle.rules.specs.Lists.{up_to, below, every}
use Rattle.rules.specs.Triangle.{row_start}
use Rattle.laws.proofs.Lists.{every_next}
use Rattle.laws.proofs.TriangleRows.{cells_most, row_start_more}
use Rattle.entries.proofs.Leading.{leading_all, leading_stop}
use Rattle.field_spots.specs.Spots.{cell_row, spot}
use Rattle.field_spots.proofs.Cells.{ends}
use borrow.Author.Rules.{rules}
use Rattle.field_spots.proofs.cell_of.Statement.{statement}
use Rattle.field_spots.proofs.cell_of.Tie as tie

abbrev invariant-loop : tie.invariant-loop-i
invariant-loop k m start₀ i₀ start i = (i ≤ k) × ((start ≡ row_start k i) × ((start ≤ m) × (every (ends k m) (below i) ≡ true)))

abbrev decreases-loop : tie.decreases-loop-i
decreases-loop k m start₀ i₀ start i = k - i

-- the row is the first that ends after cell m
same_spot : (k m i start : ℕ) → i ≡ cell_row k m → start ≡ row_start k i → spot i (m - start) ≡ spot (cell_row k m) (m - row_start k (cell_row k m))
same_spot k m i start e f = rw (f, e)

module _ (k m i : ℕ) (h : every (ends k m) (below i) ≡ true) where
  here : i < k → m < row_start k (i + 1) → i ≡ cell_row k m
  unfolding cell_row
  here l o = sym (leading_stop (ends k m) k i l h (lt-leb (row_start k (i + 1)) m o))

  last : i ≡ k → i ≡ cell_row k m
  unfolding cell_row
  last e = e ∙ sym (leading_all (ends k m) k (rw e at h))

  on : row_start k (i + 1) ≤ m → every (ends k m) (below (i + 1)) ≡ true
  on l = every_next (ends k m) (λ i. i) i h (le-leb (row_start k (i + 1)) m l)

loop-holds : tie.Need-loop-i-init invariant-loop decreases-loop
unfolding up_to every row_start
loop-holds c = (omega arith, (refl, (omega arith, refl)))

returns : tie.Need-returns-then-m-next invariant-loop decreases-loop
returns c =
    let a = c.before.before.before.args in
    let l = c.before.before.loop-i in
    let next = row_start_more a.k l.i in
    same_spot a.k a.m l.i l.start (here a.k a.m l.i l.invariant.1.1.1 (omega arith) (omega (arith, l.invariant.1.0, c.if-m-next.true))) l.invariant.1.0

loop-again : tie.Need-loop-i-preserved invariant-loop decreases-loop
loop-again c =
    let a = c.before.before.before.args in
    let l = c.before.before.loop-i in
    let next = row_start_more a.k l.i in
    (omega arith, (omega (arith, l.invariant.1.0), (c.if-m-next.false, on a.k a.m l.i l.invariant.1.1.1 (omega (arith, l.invariant.1.0, c.if-m-next.false)))))

returns-2 : tie.Need-returns invariant-loop decreases-loop
returns-2 c =
    let a = c.before.before.args in
    let l = c.before.loop-i in
    let e : l.i ≡ a.k = omega arith in
    same_spot a.k a.m a.k l.start (sym e ∙ last a.k a.m l.i l.invariant.1.1.1 e) (l.invariant.1.0 ∙ ap (row_start a.k) e)

add-next-2 : tie.Need-overflow_add-next-in-loop-i invariant-loop decreases-loop
add-next-2 c =
    let l = c.before.loop-i in
    let room = cells_most c.before.before.args.k c.before.before.requires.0 in
    search rules

pub cell_of_spec : {M : Type 1} → statement M
cell_of_spec =
    tie.close
    (tie.spec
    invariant-loop
    decreases-loop
    loop-holds
    (λ c. search rules)
    (λ c. search rules)
    add-next-2
    (λ c. search rules)
    returns
    (λ c. search rules)
    (λ c. search rules)
    loop-again
    (λ c. search rules)
    returns-2)
