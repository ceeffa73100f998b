-- The loop's invariant: `sum` is the sum of the payments of the first m origin years after year t. Assumes nothing.
use Prim.Native.Nat.{ℕ, suc, ◌+◌, ◌-◌, ◌*◌, ◌/◌, ◌≤◌, ◌<◌}
use native.Mathlib.Omega.{arith}
use mathlib.Core.Path.{◌≡◌, refl, ap, ◌∙◌}
use mathlib.Core.List.{List}
use lib.IntN.{ℤ, pos, nat_abs, ◌+ℤ◌}
use mir.Syntax.{w64}
use mir.Val.{SFits, to_z, of_z}
use mir.Facts.{to_z-of_z}
use Rattle.rules.specs.Triangle.{sum_to, future_start}
use Rattle.signed_sums.specs.Small.{most_figure}
use Rattle.laws.proofs.Signed.{held, size_fits}
use Rattle.signed_sums.proofs.Sums.{sum_fits as both-sum-fits}
use Rattle.signed_sums.proofs.Adding.{sum_size_lem, sum_read, sum_step, sum_fits}
use Rattle.vectors.specs.Vectors.{figure_at}
use Rattle.future_figures.specs.FutureFigures.{expected_payments}
use Rattle.future_figures.proofs.Future.{payment_place, payment_inside, place_most}
use borrow.Author.Rules.{rules, sfits_of}
use Rattle.future_figures.proofs.expected_payments.Statement.{statement}
use Rattle.future_figures.proofs.expected_payments.Tie as tie

-- the payment of turn m
abbrev term : List ℤ → ℕ → ℕ → ℕ → ℤ
term xs y t m = figure_at xs (y + (future_start (suc (t + m)) + t))

abbrev invariant-loop : tie.invariant-loop-m
invariant-loop out y z k t n sum₀ m₀ sum m = (m ≤ n) × (sum ≡ of_z w64 (sum_to (term out y t) m))

abbrev decreases-loop : tie.decreases-loop-m
decreases-loop out y z k t n sum₀ m₀ sum m = n - m

loop-holds : tie.Need-loop-m-init invariant-loop decreases-loop
unfolding sum_to
loop-holds c = (omega arith, refl)

-- the payment stands in its section
inside : (s : tie.Start invariant-loop decreases-loop) (m : ℕ) → m < s.args.k - s.args.t → future_start (suc (s.args.t + m)) + s.args.t < future_start (s.args.k + 1)
inside s m h = payment_inside s.args.k (s.args.t + m) s.args.t (omega arith) (omega arith)

small : (s : tie.Start invariant-loop decreases-loop) (m : ℕ) → m < s.args.k - s.args.t → nat_abs (term s.args.out.now s.args.y s.args.t m) ≤ most_figure
small s m h = s.requires.1.1.1.1.0 (future_start (suc (s.args.t + m)) + s.args.t) (inside s m h)

-- where the payment of a turn stands, as the code has it
place_is : (l : tie.At-loop-m invariant-loop decreases-loop)
    → l.before.args.y + ((l.before.args.t + l.loop-m.m + 1) * (l.before.args.t + l.loop-m.m) / 2 + l.before.args.t)
    ≡ l.before.args.y + (future_start (suc (l.before.args.t + l.loop-m.m)) + l.before.args.t)
place_is l = rw (payment_place (l.before.args.t + l.loop-m.m))

add-sum-3 : tie.Need-overflow_add-sum-in-loop-m-2 invariant-loop decreases-loop
add-sum-3 c =
    let l = c.before.before in
    let s = l.before in
    rw (place_is l)
    (sum_fits (term s.args.out.now s.args.y s.args.t) most_figure (s.args.k - s.args.t) (small s) l.loop-m.m l.loop-m.sum-bits (omega arith) (omega arith) l.loop-m.invariant.1)

loop-again : tie.Need-loop-m-preserved invariant-loop decreases-loop
loop-again c =
    let l = c.before.before in
    let s = l.before in (
      omega arith,
      rw (place_is l)
          (ap (of_z w64)
          (sum_step (term s.args.out.now s.args.y s.args.t) most_figure (s.args.k - s.args.t) (small s) l.loop-m.m l.loop-m.sum-bits (omega arith) (omega arith) l.loop-m.invariant.1)),
    )

-- the sum of all, and the tail payment
all : (l : tie.At-loop-m invariant-loop decreases-loop) → l.before.args.k - l.before.args.t ≤ l.loop-m.m
    → to_z w64 l.loop-m.sum-bits ≡ sum_to (term l.before.args.out.now l.before.args.y l.before.args.t) (l.before.args.k - l.before.args.t)
all l h =
    let s = l.before in
    let e : l.loop-m.m ≡ s.args.k - s.args.t = omega arith in
    sum_read (term s.args.out.now s.args.y s.args.t) most_figure (s.args.k - s.args.t) (small s) (s.args.k - s.args.t) l.loop-m.sum-bits (omega arith) (omega arith)
    (rw e at l.loop-m.invariant.1)

tail_is : (s : tie.Start invariant-loop decreases-loop) → held (figure_at s.args.out.now (s.args.z + s.args.t)) ≡ figure_at s.args.out.now (s.args.z + s.args.t)
tail_is s = to_z-of_z (size_fits (figure_at s.args.out.now (s.args.z + s.args.t)) (omega (arith, s.requires.1.1.1.1.1 s.args.t (omega arith))))

both-fit : (s : tie.Start invariant-loop decreases-loop)
    → SFits w64 (sum_to (term s.args.out.now s.args.y s.args.t) (s.args.k - s.args.t) +ℤ figure_at s.args.out.now (s.args.z + s.args.t))
both-fit s =
    both-sum-fits (sum_to (term s.args.out.now s.args.y s.args.t) (s.args.k - s.args.t)) (figure_at s.args.out.now (s.args.z + s.args.t))
    (omega (arith, sum_size_lem (term s.args.out.now s.args.y s.args.t) most_figure (s.args.k - s.args.t) (small s) (s.args.k - s.args.t) (omega arith)))
    (omega (arith, s.requires.1.1.1.1.1 s.args.t (omega arith)))

add-result-2 : tie.Need-overflow_add-result-2 invariant-loop decreases-loop
add-result-2 c =
    let l = c.before.before in
    rw (all l (omega arith), tail_is l.before) (both-fit l.before)

returns : tie.Need-returns invariant-loop decreases-loop
unfolding expected_payments
returns c =
    let l = c.before.before in
    rw (all l (omega arith), tail_is l.before) (to_z-of_z (both-fit l.before))

pub expected_payments_spec : {M : Type 1} → statement M
expected_payments_spec =
    tie.close
    (tie.spec
    invariant-loop
    decreases-loop
    (λ c. omega arith)
    loop-holds
    (λ c. omega arith)
    (λ c. omega arith)
    (λ c. omega (arith, place_most (c.before.before.args.t + c.before.loop-m.m) (omega arith)))
    (λ c. omega (arith, place_is c.before, inside c.before.before c.before.loop-m.m (omega arith)))
    (λ c. omega (arith, place_is c.before, inside c.before.before c.before.loop-m.m (omega arith)))
    (λ c. omega (arith, place_is c.before, inside c.before.before c.before.loop-m.m (omega arith)))
    (λ c. omega (arith, place_is c.before, inside c.before.before c.before.loop-m.m (omega arith)))
    add-sum-3
    (λ c. omega arith)
    (λ c. omega arith)
    loop-again
    (λ c. omega arith)
    (λ c. omega arith)
    (λ c. omega arith)
    add-result-2
    returns)
