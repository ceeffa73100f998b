-- The loop's invariant: the first i running sums are put, and `sum` is the last of them. Assumes nothing.
use Prim.Native.Nat.{ℕ, ◌+◌, ◌-◌, ◌≤◌, ◌<◌}
use native.Mathlib.Omega.{arith}
use mathlib.Core.Path.{◌≡◌, refl, sym, ap, ◌∙◌}
use mathlib.Core.List.{List}
use lib.IntN.{ℤ}
use lib.Seq.{sets}
use mir.Syntax.{w64}
use mir.Val.{of_z}
use mir.Facts.{to_z-of_z}
use Rattle.rules.specs.Lists.{up_to}
use Rattle.rules.specs.Triangle.{sum_to}
use Rattle.laws.proofs.Joined.{sets_more}
use Rattle.laws.proofs.Signed.{held, size_fits}
use Rattle.signed_sums.proofs.Adding.{sum_fits, sum_step}
use Rattle.signed_sums.specs.Small.{most_figure}
use Rattle.vectors.specs.Vectors.{figure_at, running}
use Rattle.vectors.proofs.Before.{figure_read}
use Rattle.vectors.proofs.put_running.Statement.{statement}
use Rattle.vectors.proofs.put_running.Tie as tie

-- the running sum of turn i
abbrev one : List ℤ → ℕ → ℕ → ℤ
one xs a i = sum_to (λ j. figure_at xs (a + j)) (i + 1)

abbrev invariant-loop : tie.invariant-loop-i
invariant-loop out₀ at a n sum₀ i₀ out sum i = (i ≤ n) × ((out ≡ sets out₀ at (up_to (one out₀ a) i)) × (sum ≡ of_z w64 (sum_to (λ j. figure_at out₀ (a + j)) i)))

abbrev decreases-loop : tie.decreases-loop-i
decreases-loop out₀ at a n sum₀ i₀ out sum i = n - i

loop-holds : tie.Need-loop-i-init invariant-loop decreases-loop
unfolding up_to sum_to
loop-holds c = (omega arith, (refl, refl))

-- the figure of a turn is read as it was
read : (l : tie.At-loop-i invariant-loop decreases-loop) → l.loop-i.i < l.before.args.n
    → held (figure_at l.loop-i.out (l.before.args.a + l.loop-i.i)) ≡ held (figure_at l.before.args.out.now (l.before.args.a + l.loop-i.i))
read l h =
    let s = l.before in
    let small = s.requires.1.1.1 l.loop-i.i h in
    figure_read s.args.out.now l.loop-i.out s.args.at (up_to (one s.args.out.now s.args.a) l.loop-i.i) l.loop-i.invariant.1.0 (s.args.a + l.loop-i.i) (omega arith) small
    ∙ sym (to_z-of_z (size_fits (figure_at s.args.out.now (s.args.a + l.loop-i.i)) (omega arith)))

add-sum-2 : tie.Need-overflow_add-sum-in-loop-i invariant-loop decreases-loop
add-sum-2 c =
    let l = c.before.before in
    let s = l.before in
    rw (read l (omega arith))
    (sum_fits (λ j. figure_at s.args.out.now (s.args.a + j)) most_figure s.args.n s.requires.1.1.1 l.loop-i.i l.loop-i.sum-bits (omega arith) (omega arith) l.loop-i.invariant.1.1)

loop-again : tie.Need-loop-i-preserved invariant-loop decreases-loop
loop-again c =
    let l = c.before.before in
    let s = l.before in
    let f : ℕ → ℤ = λ j. figure_at s.args.out.now (s.args.a + j) in
    let step = sum_step f most_figure s.args.n s.requires.1.1.1 l.loop-i.i l.loop-i.sum-bits (omega arith) (omega arith) l.loop-i.invariant.1.1 in
    let fits = sum_fits f most_figure s.args.n s.requires.1.1.1 l.loop-i.i l.loop-i.sum-bits (omega arith) (omega arith) l.loop-i.invariant.1.1 in (
      omega arith,
      (
        rw (read l (omega arith), to_z-of_z fits, step, l.loop-i.invariant.1.0) (sets_more (one s.args.out.now s.args.a) s.args.out.now s.args.at l.loop-i.i),
        rw (read l (omega arith)) (ap (of_z w64) step),
      ),
    )

returns : tie.Need-returns invariant-loop decreases-loop
unfolding running
returns c =
    let e : c.before.loop-i.i ≡ c.before.before.args.n = omega arith in
    rw e at c.before.loop-i.invariant.1.0

pub put_running_spec : {M : Type 1} → statement M
put_running_spec =
    tie.close
    (tie.spec
    invariant-loop
    decreases-loop
    loop-holds
    (λ c. omega arith)
    (λ c. omega arith)
    (λ c. omega arith)
    add-sum-2
    (λ c. omega arith)
    (λ c. omega arith)
    (λ c. omega arith)
    (λ c. omega arith)
    (λ c. omega arith)
    loop-again
    returns)
