-- The rate of a year and question 20, by the shape that is sent. Assumes nothing.
use mathlib.Core.Path.{◌≡◌, refl}
use mathlib.Core.Bool.{Bool, true, false, ◌&&◌}
use Prim.Native.Nat.{ℕ, suc, ◌+◌}
use native.Mathlib.Omega.{arith}
use native.Mathlib.Numerals.{add-one}
use borrow.Author.Tests.{eq-eqb, ne_eqb}
use lib.Ieee.{Float, nan, inf, fin, binary64, add, sub, mul, le, lt, is_nan}
use Rattle.rules.specs.Lists.{between}
use Rattle.rules.specs.Inflation.{half, least_rate, most_rate, rate_fits, fading_after, rate_after, shape_fits}
use Rattle.rules.specs.declared.Inflation.{Inflation}
use Rattle.rules.specs.declared.Inflation.TheVariants.{Flat, Fading, Shock}

-- the two ways out of `a && b`: x is the answer of a
pub and_then : (a b x r : Bool) → x ≡ a → x ≡ true → r ≡ b → r ≡ a && b
and_then a b x r e h g = rw (← e, h) g

pub and_else : (a b x : Bool) → x ≡ a → x ≡ false → x ≡ a && b
and_else a b x e h = rw (← e, h)

-- a NaN fails both comparisons
pub rate_fits_is : (x : Float) → le least_rate x && le x most_rate ≡ rate_fits x
unfolding rate_fits is_nan le lt
rate_fits_is nan = refl
rate_fits_is (inf s) = refl
rate_fits_is (fin s m e) = refl

module _ (shape : Inflation) (n : ℕ) where
  pub flat_next : (rate : Float) → shape ≡ Flat rate → rate ≡ rate_after shape n
  unfolding rate_after
  flat_next rate e = rw e

  pub fading_next : (rate long x : Float) → shape ≡ Fading rate long → x ≡ rate_after shape n → add binary64 long (mul binary64 half (sub binary64 x long)) ≡ rate_after shape (n + 1)
  unfolding rate_after fading_after
  fading_next rate long x e h = rw (h, e, add-one n)

  pub fading_first : (rate long : Float) → shape ≡ Fading rate long → rate ≡ rate_after shape 0
  unfolding rate_after fading_after
  fading_first rate long e = rw e

  pub shock_now : (rate other : Float) (year : ℕ) → shape ≡ Shock rate other year → year ≡ n + 1 → rate ≡ rate_after shape n
  unfolding rate_after
  shock_now rate other year e h = rw (e, eq-eqb (suc n) year (omega arith))

  pub shock_other : (rate other : Float) (year : ℕ) → shape ≡ Shock rate other year → (year ≡ n + 1 → ⊥) → other ≡ rate_after shape n
  unfolding rate_after
  shock_other rate other year e h = rw (e, ne_eqb (suc n) year (λ q. h (omega arith)))

module _ (shape : Inflation) (years : ℕ) where
  pub flat_fits : (rate : Float) → shape ≡ Flat rate → shape_fits shape years ≡ rate_fits rate
  unfolding shape_fits
  flat_fits rate e = rw e

  pub fading_fits : (rate long : Float) → shape ≡ Fading rate long → shape_fits shape years ≡ rate_fits rate && rate_fits long
  unfolding shape_fits
  fading_fits rate long e = rw e

  pub shock_fits : (rate other : Float) (year : ℕ) → shape ≡ Shock rate other year → shape_fits shape years ≡ (rate_fits rate && rate_fits other) && between 1 years year
  unfolding shape_fits
  shock_fits rate other year e = rw e
