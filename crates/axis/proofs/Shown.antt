-- The numbers at the ticks are exact: a step is a whole multiple of the axis's unit. Assumes nothing.
use mathlib.Core.Path.{◌≡◌, refl, ap, ◌∙◌}
use Prim.Native.Nat.{ℕ, zero, suc, ◌+◌, ◌-◌, ◌*◌, ◌/◌, ◌^◌, ◌≤◌, ◌<◌}
use native.Mathlib.Decide.{dec_le}
use native.Mathlib.Nat.{pow-suc, pow-le-pow_right, le_of_mul-le-mul_left, mul-div_cancel, mul-lt-mul_of_pos_right, mul-le-mul, one-le-pow}
use native.Mathlib.Omega.{arith}
use borrow.Author.Tests.{le-leb, lt-leb}
use lib.Pow.{pow-add}
use Rattle.axis.specs.Axis.{in_decade, step_in, step_for, unit_of, shown_step}
use Rattle.axis.proofs.Axis.{step_here, step_later}

-- a number that is one digit and zeros
record Round (f : ℕ) : Type 0 where
  first : ℕ
  zeros : ℕ
  digit : first < 10
  is : f ≡ first * 10 ^ zeros

-- a step is a round number of what it began with
decade_round : (s largest : ℕ) → (f : ℕ) × (in_decade s largest ≡ s * f) × Round f
unfolding in_decade
decade_round s largest = go (dec_le largest (5 * s)) (dec_le largest (10 * s))
  where
    go : Dec (largest ≤ 5 * s) → Dec (largest ≤ 10 * s) → (f : ℕ) × (in_decade s largest ≡ s * f) × Round f
    go (yes l) m = (1, rw (le-leb largest (5 * s) l) (omega arith), record { first = 1; zeros = 0; digit = omega arith; is = refl })
    go (no l) (yes m) =
        (2, rw (lt-leb largest (5 * s) (omega arith), le-leb largest (10 * s) m) (omega arith), record { first = 2; zeros = 0; digit = omega arith; is = refl })
    go (no l) (no m) =
        (5, rw (lt-leb largest (5 * s) (omega arith), lt-leb largest (10 * s) (omega arith)) (omega arith), record { first = 5; zeros = 0; digit = omega arith; is = refl })

step_round : (n s largest : ℕ) → (f : ℕ) × (step_in n s largest ≡ s * f) × Round f
unfolding step_in
step_round zero s largest = (1, omega arith, record { first = 1; zeros = 0; digit = omega arith; is = refl })
step_round (suc n) s largest = go (dec_le largest (25 * s)) (step_round n (10 * s) largest)
  where
    go : Dec (largest ≤ 25 * s) → ((f : ℕ) × (step_in n (10 * s) largest ≡ 10 * s * f) × Round f) → (f : ℕ) × (step_in (suc n) s largest ≡ s * f) × Round f
    go (yes l) later =
        let (f, e, r) = decade_round s largest in
        (f, step_here n s largest l ∙ e, r)
    go (no l) (f, e, r) = (
      10 * f,
      step_later n s largest (omega arith) ∙ e ∙ omega arith,
      record { first = r.first; zeros = suc r.zeros; digit = r.digit; is = omega (arith, r.is, ap (λ (z : ℕ). r.first * z) (pow-suc 10 r.zeros)) },
    )

-- a round number that is at least 10^u is a multiple of it
fewer_zeros : (u a j : ℕ) → a < 10 → 10 ^ u ≤ a * 10 ^ j → u ≤ j
fewer_zeros u a j d h = go (dec_le u j)
  where
    go : Dec (u ≤ j) → u ≤ j
    go (yes l) = l
    go (no l) =
        let more : 10 ^ suc j ≤ 10 ^ u = pow-le-pow_right {n = 10} (omega arith) {i = suc j} {j = u} (omega arith) in
        let less : a * 10 ^ j < 10 * 10 ^ j = mul-lt-mul_of_pos_right d (one-le-pow j 10 (omega arith)) in
        absurd (omega (arith, h, more, less, pow-suc 10 j))

multiple : (u f : ℕ) → Round f → 10 ^ u ≤ f → (q : ℕ) × (f ≡ q * 10 ^ u)
multiple u f r h =
    let l : u ≤ r.zeros = fewer_zeros u r.first r.zeros r.digit (rw r.is at h) in
    let e : r.zeros ≡ r.zeros - u + u = omega arith in
    (r.first * 10 ^ (r.zeros - u), r.is ∙ ap (λ (z : ℕ). r.first * 10 ^ z) e ∙ rw (pow-add 10 (r.zeros - u) u) (omega arith))

-- so the step that is shown is the step
exact : (one u step f : ℕ) → 1 ≤ one → step ≡ one * f → Round f → one * 10 ^ u ≤ step → step / (one * 10 ^ u) * (one * 10 ^ u) ≡ step
exact one u step f h e r l =
    let (q, g) = multiple u f r (le_of_mul-le-mul_left {k = one} (rw e at l) h) in
    let step_is : step ≡ q * (one * 10 ^ u) = e ∙ ap (λ (z : ℕ). one * z) g ∙ omega arith in
    let some : 1 ≤ one * 10 ^ u = mul-le-mul {n₁ = 1} {m₁ = 1} h (one-le-pow u 10 (omega arith)) in
    rw step_is (ap (λ (z : ℕ). z * (one * 10 ^ u)) (mul-div_cancel q {n = one * 10 ^ u} some))

by_one : (one step f : ℕ) → 1 ≤ one → step ≡ one * f → step / (one * 1) * (one * 1) ≡ step
by_one one step f h e =
    let step_is : step ≡ f * (one * 1) = e ∙ omega arith in
    rw step_is (ap (λ (z : ℕ). z * (one * 1)) (mul-div_cancel f {n = one * 1} (omega arith)))

pub shown_exact : (one largest : ℕ) → 1 ≤ one → shown_step one (step_for one largest) * (one * unit_of one (step_for one largest)) ≡ step_for one largest
unfolding shown_step unit_of step_for
shown_exact one largest h = go (dec_le (one * 1000000000) step) (dec_le (one * 1000000) step) (dec_le (one * 1000) step) (step_round 17 one largest)
  where
    step : ℕ
    step = step_in 17 one largest

    go : Dec (one * 1000000000 ≤ step) → Dec (one * 1000000 ≤ step) → Dec (one * 1000 ≤ step) → ((f : ℕ) × (step ≡ one * f) × Round f)
        → shown_step one step * (one * unit_of one step) ≡ step
    go (yes l) b c (f, e, r) = rw (le-leb (one * 1000000000) step l) (exact one 9 step f h e r l)
    go (no l) (yes b) c (f, e, r) = rw (lt-leb (one * 1000000000) step (omega arith), le-leb (one * 1000000) step b) (exact one 6 step f h e r b)
    go (no l) (no b) (yes c) (f, e, r) =
        rw (lt-leb (one * 1000000000) step (omega arith), lt-leb (one * 1000000) step (omega arith), le-leb (one * 1000) step c) (exact one 3 step f h e r c)
    go (no l) (no b) (no c) (f, e, r) =
        rw (lt-leb (one * 1000000000) step (omega arith), lt-leb (one * 1000000) step (omega arith), lt-leb (one * 1000) step (omega arith)) (by_one one step f h e)
