-- The loop's invariant: the payments expected in the first t years are put; what they are made of stands before them. Assumes nothing.
use Prim.Native.Nat.{ℕ, suc, ◌+◌, ◌-◌, ◌≤◌, ◌<◌}
use native.Mathlib.Omega.{arith}
use mathlib.Core.Path.{◌≡◌, refl, ap₂, ◌∙◌}
use mathlib.Core.List.{List}
use lib.IntN.{ℤ, pos, ◌+ℤ◌}
use lib.Seq.{sets}
use mir.Syntax.{w64}
use mir.Facts.{to_z-of_z}
use Rattle.rules.specs.Lists.{up_to}
use Rattle.rules.specs.Triangle.{sum_to, future_start}
use Rattle.laws.proofs.Joined.{sets_more}
use Rattle.laws.proofs.Sums.{sum_to_same}
use Rattle.signed_sums.specs.Small.{most_figure}
use Rattle.vectors.specs.Vectors.{figure_at}
use Rattle.vectors.proofs.Before.{sets_before, sized_before}
use Rattle.future_figures.specs.FutureFigures.{expected_payments, expected}
use Rattle.future_figures.proofs.Future.{payment_inside}
use borrow.Author.Rules.{rules, sfits_of}
use Rattle.future_figures.proofs.put_expected.Statement.{statement}
use Rattle.future_figures.proofs.put_expected.Tie as tie

-- stores after the sections change nothing
expected-before : (k y z : ℕ) (xs : List ℤ) (at : ℕ) (ys : List ℤ) (t : ℕ) → t ≤ k → y + future_start (k + 1) ≤ at → z + k < at
    → expected_payments k y z (sets xs at ys) t ≡ expected_payments k y z xs t
unfolding expected_payments
expected-before k y z xs at ys t h l m =
    ap₂ ◌+ℤ◌
    (sum_to_same (λ i. figure_at (sets xs at ys) (y + (future_start (suc (t + i)) + t))) (λ i. figure_at xs (y + (future_start (suc (t + i)) + t))) (k - t)
    (λ i j. sets_before xs at ys (y + (future_start (suc (t + i)) + t)) (pos 0) (omega (arith, payment_inside k (t + i) t (omega arith) (omega arith)))))
    (sets_before xs at ys (z + t) (pos 0) (omega arith))

abbrev invariant-loop : tie.invariant-loop-t
invariant-loop out₀ at y z k n t₀ out t = (t ≤ n) × (out ≡ sets out₀ at (up_to (expected_payments k y z out₀) t))

abbrev decreases-loop : tie.decreases-loop-t
decreases-loop out₀ at y z k n t₀ out t = n - t

loop-holds : tie.Need-loop-t-init invariant-loop decreases-loop
unfolding up_to
loop-holds c = (omega arith, refl)

expected-payments-requires : tie.Need-expected_payments-sum-requires invariant-loop decreases-loop
expected-payments-requires c κs =
    let l = c.before in
    let s = l.before in
    let done = up_to (expected_payments s.args.k s.args.y s.args.z s.args.out.now) l.loop-t.t in
    let first = sized_before most_figure s.args.y (future_start (s.args.k + 1)) s.args.out.now s.args.at done s.requires.1.1.0 s.requires.1.1.1.1.0 in
    let second = sized_before most_figure s.args.z (s.args.k + 1) s.args.out.now s.args.at done (omega arith) s.requires.1.1.1.1.1 in
    (s.requires.0, (omega arith, (omega arith, (omega arith, (rw l.loop-t.invariant.1 first, rw l.loop-t.invariant.1 second)))))

loop-again : tie.Need-loop-t-preserved invariant-loop decreases-loop
loop-again c =
    let l = c.before.before in
    let s = l.before in
    let done = up_to (expected_payments s.args.k s.args.y s.args.z s.args.out.now) l.loop-t.t in
    let same = expected-before s.args.k s.args.y s.args.z s.args.out.now s.args.at done l.loop-t.t (omega arith) s.requires.1.1.0 s.requires.1.1.1.0 in
    let sum = to_z-of_z {w = w64} {z = c.expected_payments-sum.result} (sfits_of c.expected_payments-sum.type_inv) ∙ (rw (l.loop-t.invariant.1, same) at c.expected_payments-sum.ensures) in (
      omega arith,
      rw (sum, l.loop-t.invariant.1) (sets_more (expected_payments s.args.k s.args.y s.args.z s.args.out.now) s.args.out.now s.args.at l.loop-t.t),
    )

returns : tie.Need-returns invariant-loop decreases-loop
unfolding expected
returns c =
    let e : c.before.loop-t.t ≡ c.before.before.args.k + 1 = omega arith in
    rw e at c.before.loop-t.invariant.1

pub put_expected_spec : {M : Type 1} → statement M
put_expected_spec =
    tie.close
    (tie.spec
    invariant-loop
    decreases-loop
    (λ c. omega arith)
    loop-holds
    expected-payments-requires
    (λ c. omega arith)
    (λ c. omega arith)
    (λ c. omega arith)
    (λ c. omega arith)
    (λ c. omega arith)
    loop-again
    returns)
