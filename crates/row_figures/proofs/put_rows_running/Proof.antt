-- The loop's invariant: the rows before row i are put, and `from` is where row i starts. Assumes nothing.
use Prim.Native.Nat.{ℕ, ◌+◌, ◌-◌, ◌≤◌}
use native.Mathlib.Omega.{arith}
use mathlib.Core.Path.{◌≡◌, refl, ◌∙◌}
use mathlib.Core.List.{List}
use lib.IntN.{ℤ}
use lib.ListN.{length}
use lib.Seq.{sets}
use Rattle.rules.specs.Lists.{up_to, joined}
use Rattle.rules.specs.Record.{cells}
use Rattle.rules.specs.Triangle.{sum_to, row_start}
use Rattle.laws.proofs.Lists.{length_up_to}
use Rattle.laws.proofs.TriangleRows.{row_within, row_start_more}
use Rattle.signed_sums.specs.Small.{most_figure}
use Rattle.vectors.specs.Vectors.{figure_at, running}
use Rattle.vectors.proofs.Before.{sized_before, running_before}
use Rattle.row_figures.specs.RowFigures.{rows_running}
use Rattle.row_figures.proofs.Rows.{sized_row, row_more}
use Rattle.row_figures.proofs.put_rows_running.Statement.{statement}
use Rattle.row_figures.proofs.put_rows_running.Tie as tie

-- the running sums of row i
abbrev row : ℕ → ℕ → List ℤ → ℕ → List ℤ
row k a xs i = running (a + row_start k i) (k + 1 - i) xs

row_length : (k a : ℕ) (xs : List ℤ) (i : ℕ) → length (row k a xs i) ≡ k + 1 - i
unfolding running
row_length k a xs i = length_up_to (λ m. sum_to (λ j. figure_at xs (a + row_start k i + j)) (m + 1)) (k + 1 - i)

abbrev invariant-loop : tie.invariant-loop-i
invariant-loop out₀ at a k n from₀ i₀ out from i = (i ≤ n) × ((from ≡ row_start k i) × (out ≡ sets out₀ at (joined (up_to (row k a out₀) i))))

abbrev decreases-loop : tie.decreases-loop-i
decreases-loop out₀ at a k n from₀ i₀ out from i = n - i

loop-holds : tie.Need-loop-i-init invariant-loop decreases-loop
unfolding up_to joined row_start
loop-holds c = (omega arith, (refl, refl))

-- the row ends within the triangle
within : (l : tie.At-loop-i invariant-loop decreases-loop) → l.loop-i.i ≤ l.before.args.k → l.loop-i.from + (l.before.args.k + 1 - l.loop-i.i) ≤ cells l.before.args.k
within l h = omega (arith, row_within l.before.args.k l.loop-i.i h, l.loop-i.invariant.1.0)

put-running-requires : tie.Need-put_running-requires invariant-loop decreases-loop
put-running-requires c κs =
    let l = c.before.before in
    let s = l.before in
    let rows = within l (omega arith) in
    let small = sized_row most_figure s.args.a s.args.k l.loop-i.i s.args.out.now (omega arith) s.requires.1.1.1 in
    let done = joined (up_to (row s.args.k s.args.a s.args.out.now) l.loop-i.i) in
    let kept =
    sized_before most_figure (s.args.a + row_start s.args.k l.loop-i.i) (s.args.k + 1 - l.loop-i.i) s.args.out.now s.args.at done (omega (arith, rows, l.loop-i.invariant.1.0)) small in
    (omega arith, (omega (arith, rows), (omega (arith, rows), rw (l.loop-i.invariant.1.0, l.loop-i.invariant.1.1) kept)))

loop-again : tie.Need-loop-i-preserved invariant-loop decreases-loop
loop-again c =
    let l = c.before.before.before in
    let s = l.before in
    let rows = within l (omega arith) in
    let done = joined (up_to (row s.args.k s.args.a s.args.out.now) l.loop-i.i) in
    let same =
    running_before (s.args.a + row_start s.args.k l.loop-i.i) (s.args.k + 1 - l.loop-i.i) s.args.out.now s.args.at done (omega (arith, rows, l.loop-i.invariant.1.0)) in
    let put = c.put_running.ensures in (
      omega arith,
      (
        omega (arith, row_start_more s.args.k l.loop-i.i, l.loop-i.invariant.1.0),
        (rw (l.loop-i.invariant.1.0, l.loop-i.invariant.1.1, same) at put)
            ∙ row_more s.args.k (row s.args.k s.args.a s.args.out.now) (row_length s.args.k s.args.a s.args.out.now) s.args.out.now s.args.at l.loop-i.i,
      ),
    )

returns : tie.Need-returns invariant-loop decreases-loop
unfolding rows_running
returns c =
    let e : c.before.loop-i.i ≡ c.before.before.args.k + 1 = omega arith in
    rw e at c.before.loop-i.invariant.1.1

pub put_rows_running_spec : {M : Type 1} → statement M
put_rows_running_spec =
    tie.close
    (tie.spec
    invariant-loop
    decreases-loop
    (λ c. omega arith)
    loop-holds
    (λ c. omega (arith, within c.before.before (omega arith)))
    (λ c. omega (arith, within c.before.before (omega arith)))
    (λ c. omega arith)
    put-running-requires
    (λ c. omega arith)
    (λ c. omega (arith, within c.before.before.before (omega arith)))
    (λ c. omega arith)
    (λ c. omega arith)
    loop-again
    returns)
