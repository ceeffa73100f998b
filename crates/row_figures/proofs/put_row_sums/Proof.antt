-- The loop's invariant: the sums of the rows before row i are put, and `from` is where row i starts. Assumes nothing.
use Prim.Native.Nat.{ℕ, ◌+◌, ◌-◌, ◌*◌, ◌≤◌}
use native.Mathlib.Nat.{mul-one}
use native.Mathlib.Omega.{arith}
use mathlib.Core.Path.{◌≡◌, refl, ap, ◌∙◌}
use mathlib.Core.List.{List}
use lib.IntN.{ℤ}
use lib.ListN.{length}
use lib.Seq.{sets}
use mir.Syntax.{w64}
use mir.Facts.{to_z-of_z}
use Rattle.rules.specs.Lists.{up_to}
use Rattle.rules.specs.Record.{cells}
use Rattle.rules.specs.Triangle.{sum_to, row_start}
use Rattle.laws.proofs.Joined.{sets_more}
use Rattle.laws.proofs.Sums.{sum_to_same}
use Rattle.laws.proofs.TriangleRows.{row_within, row_start_more}
use Rattle.signed_sums.specs.Small.{most_figure}
use Rattle.vectors.specs.Vectors.{figure_at}
use Rattle.vectors.proofs.Before.{sets_before, sized_before}
use Rattle.row_figures.specs.RowFigures.{row_sums}
use Rattle.row_figures.proofs.Rows.{sized_row}
use borrow.Author.Rules.{rules, sfits_of}
use Rattle.row_figures.proofs.put_row_sums.Statement.{statement}
use Rattle.row_figures.proofs.put_row_sums.Tie as tie

-- the sum of row i
abbrev one : ℕ → ℕ → List ℤ → ℕ → ℤ
one k a xs i = sum_to (λ j. figure_at xs (a + row_start k i + j)) (k + 1 - i)

abbrev invariant-loop : tie.invariant-loop-i
invariant-loop out₀ at a k n from₀ i₀ out from i = (i ≤ n) × ((from ≡ row_start k i) × (out ≡ sets out₀ at (up_to (one k a out₀) i)))

abbrev decreases-loop : tie.decreases-loop-i
decreases-loop out₀ at a k n from₀ i₀ out from i = n - i

loop-holds : tie.Need-loop-i-init invariant-loop decreases-loop
unfolding up_to row_start
loop-holds c = (omega arith, (refl, refl))

-- the row ends within the triangle
within : (l : tie.At-loop-i invariant-loop decreases-loop) → l.loop-i.i ≤ l.before.args.k → l.loop-i.from + (l.before.args.k + 1 - l.loop-i.i) ≤ cells l.before.args.k
within l h = omega (arith, row_within l.before.args.k l.loop-i.i h, l.loop-i.invariant.1.0)

sum-along-requires : tie.Need-sum_along-sum-requires invariant-loop decreases-loop
sum-along-requires c κs =
    let l = c.before.before.before in
    let s = l.before in
    let rows = within l (omega arith) in
    let small = sized_row most_figure s.args.a s.args.k l.loop-i.i s.args.out.now (omega arith) s.requires.1.1.1 in
    let done = up_to (one s.args.k s.args.a s.args.out.now) l.loop-i.i in
    let long : 1310 ≤ length l.loop-i.out = search rules in
    let kept =
    sized_before most_figure (s.args.a + row_start s.args.k l.loop-i.i) (s.args.k + 1 - l.loop-i.i) s.args.out.now s.args.at done (omega (arith, rows, l.loop-i.invariant.1.0)) small in
    (omega arith, (λ j h. rw (mul-one j, l.loop-i.invariant.1.0, l.loop-i.invariant.1.1) (kept j h), (search rules, λ j h. rw (mul-one j) (omega (arith, long, rows)))))

loop-again : tie.Need-loop-i-preserved invariant-loop decreases-loop
loop-again c =
    let l = c.before.before.before.before in
    let s = l.before in
    let rows = within l (omega arith) in
    let done = up_to (one s.args.k s.args.a s.args.out.now) l.loop-i.i in
    let same =
    sum_to_same (λ j. figure_at (sets s.args.out.now s.args.at done) (s.args.a + row_start s.args.k l.loop-i.i + j * 1))
    (λ j. figure_at s.args.out.now (s.args.a + row_start s.args.k l.loop-i.i + j)) (s.args.k + 1 - l.loop-i.i)
    (λ j h. rw (mul-one j) (sets_before s.args.out.now s.args.at done (s.args.a + row_start s.args.k l.loop-i.i + j) _ (omega (arith, rows, l.loop-i.invariant.1.0)))) in
    let sum = to_z-of_z {w = w64} {z = c.sum_along-sum.result} (sfits_of c.sum_along-sum.type_inv) ∙ (rw (l.loop-i.invariant.1.0, l.loop-i.invariant.1.1, same) at c.sum_along-sum.ensures) in (
      omega arith,
      (
        omega (arith, row_start_more s.args.k l.loop-i.i, l.loop-i.invariant.1.0),
        rw (sum, l.loop-i.invariant.1.1) (sets_more (one s.args.k s.args.a s.args.out.now) s.args.out.now s.args.at l.loop-i.i),
      ),
    )

returns : tie.Need-returns invariant-loop decreases-loop
unfolding row_sums
returns c =
    let e : c.before.loop-i.i ≡ c.before.before.args.k + 1 = omega arith in
    rw e at c.before.loop-i.invariant.1.1

pub put_row_sums_spec : {M : Type 1} → statement M
put_row_sums_spec =
    tie.close
    (tie.spec
    invariant-loop
    decreases-loop
    (λ c. omega arith)
    loop-holds
    (λ c. omega (arith, within c.before.before.before (omega arith)))
    (λ c. omega arith)
    sum-along-requires
    (λ c. omega arith)
    (λ c. omega arith)
    (λ c. omega arith)
    (λ c. omega arith)
    (λ c. omega (arith, within c.before.before.before.before (omega arith)))
    (λ c. omega arith)
    (λ c. omega arith)
    loop-again
    returns)
