-- Of every shape that question 20 has passed, the rate of every year is a number from −0.5 to 1.0. Assumes nothing.
use mathlib.Core.Path.{◌≡◌, refl, sym}
use mathlib.Core.Bool.{Bool, true, false, ◌&&◌, ◌||◌, cond, true≢false}
use Prim.Native.Nat.{ℕ, zero, suc, ◌+◌, ◌*◌, ◌≤◌, ◌<◌}
use native.Mathlib.Omega.{arith}
use borrow.Author.Tests.{ltb-true, ltb-false, eqb-true, lt-ltb, eq-eqb}
use lib.Dec.{ltb, eqb}
use lib.IntN.{ℤ}
use lib.Ieee.{Float, nan, inf, fin, up, down, le, is_nan}
use lib.Ieee.Fits.{down_pos}
use Rattle.rules.specs.Lists.{between}
use Rattle.rules.specs.Inflation.{least_rate, most_rate, most_years, fading_after, rate_after, rate_fits, shape_fits, rates_pass}
use Rattle.rules.specs.declared.Inflation.{Inflation}
use Rattle.rules.specs.declared.Inflation.TheVariants.{Flat, Fading, Shock}
use Rattle.laws.proofs.Lists.{both_left, both_right}
use Rattle.inflation_bounds.proofs.Halfway.{RateWithin, halfway_within}

-- a comparison of floats is one of numbers, by `ltb` and by `eqb` either way round
module _ (a b c d : ℕ) where
  level : ltb a b || (eqb c d && true) ≡ true → (c ≡ d → a ≡ b) → a ≤ b
  level h e = go (ltb a b) (eqb c d) (ltb-true a b) (eqb-true c d) h
    where
      go : (x y : Bool) → (x ≡ true → a < b) → (y ≡ true → c ≡ d) → x || (y && true) ≡ true → a ≤ b
      go true y f g h = omega (arith, f refl)
      go false true f g h = omega (arith, e (g refl))
      go false false f g h = absurd (true≢false (sym h))

  levelled : a ≤ b → (a ≡ b → c ≡ d) → ltb a b || (eqb c d && true) ≡ true
  levelled h e = go (ltb a b) refl
    where
      go : (x : Bool) → ltb a b ≡ x → x || (eqb c d && true) ≡ true
      go true g = refl
      go false g = rw (eq-eqb c d (e (omega (arith, ltb-false a b g))))

-- what question 20 says of a rate, by its fraction

most_of : (m : ℕ) (e : ℤ) → le (fin false m e) most_rate ≡ true → 2 * (m * up e) ≤ 2 * down e
unfolding le
most_of m e h = omega (arith, level (m * up e * 1) (1 * 1 * down e) (m * up e * 1) (1 * 1 * down e) h (λ q. q))

least_of_lem : (m : ℕ) (e : ℤ) → le least_rate (fin true m e) ≡ true → 2 * (m * up e) ≤ 1 * down e
unfolding le
least_of_lem m e h = omega (arith, level (m * up e * 2) (1 * 1 * down e) (1 * 1 * down e) (m * up e * 2) h (λ q. sym q))

pub rate_within : (x : Float) → rate_fits x ≡ true → RateWithin x
unfolding rate_fits is_nan
rate_within nan h = absurd (true≢false (sym h))
rate_within (inf true) h = unfold le in absurd (true≢false (sym h))
rate_within (inf false) h = unfold le in absurd (true≢false (sym h))
rate_within (fin false m e) h = most_of m e (both_right (le least_rate (fin false m e)) (le (fin false m e) most_rate) h)
rate_within (fin true m e) h = least_of_lem m e (both_left (le least_rate (fin true m e)) (le (fin true m e) most_rate) h)

pub rate_fits_lem : (x : Float) → RateWithin x → rate_fits x ≡ true
unfolding rate_fits is_nan le
rate_fits_lem nan h = absurd h
rate_fits_lem (inf s) h = absurd h
rate_fits_lem (fin false m e) h =
    rw (lt-ltb 0 (1 * 1 * down e + m * up e * 2) (omega (arith, down_pos e)))
    (levelled (m * up e * 1) (1 * 1 * down e) (m * up e * 1) (1 * 1 * down e) (omega arith) (λ q. q))
rate_fits_lem (fin true m e) h =
    rw (lt-ltb 0 (m * up e * 1 + 1 * 1 * down e) (omega (arith, down_pos e)), levelled (m * up e * 2) (1 * 1 * down e) (1 * 1 * down e) (m * up e * 2) (omega arith) (λ q. sym q))

-- a fading rate: it moves halfway toward a rate that is within the limits
fading_within : (rate long : Float) → RateWithin rate → RateWithin long → (n : ℕ) → RateWithin (fading_after rate long n)
unfolding fading_after
fading_within rate long h k zero = h
fading_within rate long h k (suc n) = halfway_within (fading_after rate long n) long (fading_within rate long h k n) k

module _ (years : ℕ) where
  shape_rates : (shape : Inflation) → shape_fits shape years ≡ true → (n : ℕ) → rate_fits (rate_after shape n) ≡ true
  unfolding shape_fits rate_after
  shape_rates (Flat rate) h n = h
  shape_rates (Fading rate long) h n =
      rate_fits_lem (fading_after rate long n)
      (fading_within rate long (rate_within rate (both_left (rate_fits rate) (rate_fits long) h)) (rate_within long (both_right (rate_fits rate) (rate_fits long) h)) n)
  shape_rates (Shock rate other year) h n =
      let both = both_left (rate_fits rate && rate_fits other) (between 1 years year) h in
      either (eqb (suc n) year) (both_left (rate_fits rate) (rate_fits other) both) (both_right (rate_fits rate) (rate_fits other) both)
    where
      either : (b : Bool) → rate_fits rate ≡ true → rate_fits other ≡ true → rate_fits (cond b rate other) ≡ true
      either true f g = f
      either false f g = g

  -- of every year, even past those wanted
  pub rates_fit : (shape : Inflation) → rates_pass shape years ≡ true → (n : ℕ) → rate_fits (rate_after shape n) ≡ true
  unfolding rates_pass
  rates_fit shape h = shape_rates shape (both_right (between 1 most_years years) (shape_fits shape years) h)
