-- The loop's invariant: the rows before row i are put, and `from` is where row i starts. Assumes nothing.
use Prim.Native.Nat.{ℕ, ◌+◌, ◌-◌, ◌*◌, ◌/◌, ◌≤◌}
use native.Mathlib.Omega.{arith}
use mathlib.Core.Path.{◌≡◌, refl, ap, ap₂, ◌∙◌}
use mathlib.Core.List.{List}
use lib.IntN.{ℤ, pos, nat_abs}
use lib.ListN.{length}
use lib.Seq.{sets}
use Rattle.rules.specs.Lists.{up_to, joined}
use Rattle.rules.specs.Record.{cells}
use Rattle.rules.specs.Triangle.{row_start}
use Rattle.rules.specs.Separation.{billion}
use Rattle.laws.proofs.Lists.{length_up_to, up_to_ext}
use Rattle.laws.proofs.TriangleRows.{row_within, row_start_more}
use Rattle.signed_sums.specs.Small.{Sized}
use Rattle.vectors.specs.Vectors.{figure_at}
use Rattle.vectors.proofs.Before.{sets_before, sized_before}
use Rattle.row_figures.proofs.Rows.{row_more}
use Rattle.fitted_figures.specs.FittedFigures.{products, fitted}
use Rattle.fitted_figures.proofs.put_fitted.Statement.{statement}
use Rattle.fitted_figures.proofs.put_fitted.Tie as tie

abbrev row : ℕ → ℕ → ℕ → List ℤ → ℕ → List ℤ
row k r l xs i = products r (l + i) (k + 1 - i) xs

row_length : (k r l : ℕ) (xs : List ℤ) (i : ℕ) → length (row k r l xs i) ≡ k + 1 - i
unfolding products
row_length k r l xs i = length_up_to (λ j. pos (nat_abs (figure_at xs (r + j)) * nat_abs (figure_at xs (l + i + j)) / billion)) (k + 1 - i)

products-before : (r l n : ℕ) (xs : List ℤ) (at : ℕ) (ys : List ℤ) → r + n ≤ at → l + n ≤ at → products r l n (sets xs at ys) ≡ products r l n xs
unfolding products
products-before r l n xs at ys h m =
    up_to_ext (λ j. pos (nat_abs (figure_at (sets xs at ys) (r + j)) * nat_abs (figure_at (sets xs at ys) (l + j)) / billion))
    (λ j. pos (nat_abs (figure_at xs (r + j)) * nat_abs (figure_at xs (l + j)) / billion)) n
    (λ j t. ap₂ (λ (x y : ℤ). pos (nat_abs x * nat_abs y / billion)) (sets_before xs at ys (r + j) (pos 0) (omega arith)) (sets_before xs at ys (l + j) (pos 0) (omega arith)))

-- the levels from a later year on
later-sized : (b a n i : ℕ) (xs : List ℤ) → i ≤ n → Sized b a n xs → Sized b (a + i) (n - i) xs
later-sized b a n i xs h small j l =
    let e : a + i + j ≡ a + (i + j) = omega arith in
    rw e (small (i + j) (omega arith))

fewer-sized : (b a n m : ℕ) (xs : List ℤ) → m ≤ n → Sized b a n xs → Sized b a m xs
fewer-sized b a n m xs h small j l = small j (omega arith)

abbrev invariant-loop : tie.invariant-loop-i
invariant-loop out₀ at r l k n from₀ i₀ out from i = (i ≤ n) × ((from ≡ row_start k i) × (out ≡ sets out₀ at (joined (up_to (row k r l out₀) i))))

abbrev decreases-loop : tie.decreases-loop-i
decreases-loop out₀ at r l k n from₀ i₀ out from i = n - i

loop-holds : tie.Need-loop-i-init invariant-loop decreases-loop
unfolding up_to joined row_start
loop-holds c = (omega arith, (refl, refl))

-- the row ends within the triangle
within : (l : tie.At-loop-i invariant-loop decreases-loop) → l.loop-i.i ≤ l.before.args.k → l.loop-i.from + (l.before.args.k + 1 - l.loop-i.i) ≤ cells l.before.args.k
within l h = omega (arith, row_within l.before.args.k l.loop-i.i h, l.loop-i.invariant.1.0)

put-fitted-row-requires : tie.Need-put_fitted_row-requires invariant-loop decreases-loop
put-fitted-row-requires c κs =
    let l = c.before.before in
    let s = l.before in
    let rows = within l (omega arith) in
    let n = s.args.k + 1 in
    let done = joined (up_to (row s.args.k s.args.r s.args.l s.args.out.now) l.loop-i.i) in
    let shares =
    sized_before billion s.args.r (n - l.loop-i.i) s.args.out.now s.args.at done (omega arith)
    (fewer-sized billion s.args.r n (n - l.loop-i.i) s.args.out.now (omega arith) s.requires.1.1.1.1.0) in
    let levels =
    sized_before billion (s.args.l + l.loop-i.i) (n - l.loop-i.i) s.args.out.now s.args.at done (omega arith)
    (later-sized billion s.args.l n l.loop-i.i s.args.out.now (omega arith) s.requires.1.1.1.1.1) in
    (omega (arith, rows), (omega arith, (omega arith, (rw l.loop-i.invariant.1.1 shares, rw l.loop-i.invariant.1.1 levels))))

loop-again : tie.Need-loop-i-preserved invariant-loop decreases-loop
loop-again c =
    let l = c.before.before.before in
    let s = l.before in
    let rows = within l (omega arith) in
    let one = row s.args.k s.args.r s.args.l s.args.out.now in
    let same =
    products-before s.args.r (s.args.l + l.loop-i.i) (s.args.k + 1 - l.loop-i.i) s.args.out.now s.args.at (joined (up_to one l.loop-i.i)) (omega arith) (omega arith) in (
      omega arith,
      (
        omega (arith, row_start_more s.args.k l.loop-i.i, l.loop-i.invariant.1.0),
        (rw (l.loop-i.invariant.1.0, l.loop-i.invariant.1.1, same) at c.put_fitted_row.ensures)
            ∙ row_more s.args.k one (row_length s.args.k s.args.r s.args.l s.args.out.now) s.args.out.now s.args.at l.loop-i.i,
      ),
    )

returns : tie.Need-returns invariant-loop decreases-loop
unfolding fitted
returns c =
    let e : c.before.loop-i.i ≡ c.before.before.args.k + 1 = omega arith in
    rw e at c.before.loop-i.invariant.1.1

pub put_fitted_spec : {M : Type 1} → statement M
put_fitted_spec =
    tie.close
    (tie.spec
    invariant-loop
    decreases-loop
    (λ c. omega arith)
    loop-holds
    (λ c. omega (arith, within c.before.before (omega arith)))
    (λ c. omega arith)
    (λ c. omega arith)
    put-fitted-row-requires
    (λ c. omega arith)
    (λ c. omega (arith, within c.before.before.before (omega arith)))
    (λ c. omega arith)
    (λ c. omega arith)
    loop-again
    returns)
