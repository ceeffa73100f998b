-- Rates from −0.5 to 1.0, whatever they are, make a path that lies between halving and doubling each year: it is finite and above zero, and no index is below 15.
-- Assumes nothing.
use mathlib.Core.Path.{◌≡◌, refl}
use mathlib.Core.Bool.{Bool, true, false}
use Prim.Native.Nat.{ℕ, zero, suc, ◌+◌, ◌-◌, ◌*◌, ◌/◌, ◌≤◌, ◌<◌}
use native.Mathlib.Nat.{le_trans, mul-le-mul_right, le-div_iff_mul-le, div-mul-le_self, le_of_mul-le-mul_right}
use native.Mathlib.Omega.{arith}
use borrow.Author.Tests.{le-ltb}
use lib.Dec.{T, leb, leb→le}
use lib.IntN.{ℤ, pos}
use lib.Ieee.{Float, nan, inf, fin, binary64, up, down, add, sum, mul, le, round}
use lib.Ieee.Fits.{down_pos}
use lib.Ieee.Bits.{is_true}
use lib.Ieee.Order.{round_mono}
use lib.Ieee.Positive.{positive, between, mul_mono, le→cross, num, den}
use Rattle.rules.specs.Lists.{up_to, below, every}
use Rattle.rules.specs.Inflation.{half, one, index_scale, most_years, path_after, nearest_whole, rate_fits}
use Rattle.laws.proofs.Lists.{every_up_to}
use Rattle.inflation_bounds.specs.Calls.{least_index}
use Rattle.inflation_bounds.proofs.Halfway.{RateWithin}
use Rattle.inflation_bounds.proofs.Rates.{rate_within}

-- 2.0
abbrev two : Float
two = fin false 1 (pos 1)

-- 1.0 plus a rate lies from 0.5 to 2.0: each sum is one rounded fraction

plus : (m : ℕ) (e : ℤ) → add binary64 one (fin false m e) ≡ round binary64 false (1 * 1 * down e + m * up e * 1) (1 * down e)
unfolding add sum
plus m e = refl

minus : (m : ℕ) (e : ℤ) → m * up e ≤ down e → add binary64 one (fin true m e) ≡ round binary64 false (1 * 1 * down e - m * up e * 1) (1 * down e)
unfolding add sum
minus m e h = rw (le-ltb (1 * 1 * down e) (m * up e * 1) (omega arith))

within : (a c : ℕ) → 0 < c → c ≤ a * 2 → a ≤ 2 * c → T (le half (round binary64 false a c)) × T (le (round binary64 false a c) two)
unfolding round
within a c p h k = (round_mono binary64 1 2 a c (omega arith) p (omega arith), round_mono binary64 a c 2 1 p (omega arith) (omega arith))

factor_within : (rate : Float) → RateWithin rate → T (le half (add binary64 one rate)) × T (le (add binary64 one rate) two)
factor_within nan h = absurd h
factor_within (inf s) h = absurd h
factor_within (fin false m e) h = rw (plus m e) (within (1 * 1 * down e + m * up e * 1) (1 * down e) (omega (arith, down_pos e)) (omega arith) (omega arith))
factor_within (fin true m e) h = rw (minus m e (omega arith)) (within (1 * 1 * down e - m * up e * 1) (1 * down e) (omega (arith, down_pos e)) (omega arith) (omega arith))

-- the bounds of a path

unfoldable lowest : ℕ → Float
lowest zero = one
lowest (suc n) = mul binary64 (lowest n) half

unfoldable highest : ℕ → Float
highest zero = one
highest (suc n) = mul binary64 (highest n) two

-- up to 16 years each bound, and its product with 1,000,000.0, is finite and above zero, and the lowest index is not below 15: one test a statement, computed

for_all : (p : ℕ → Bool) → every p (below (suc most_years)) ≡ true → (n : ℕ) → n ≤ most_years → T (p n)
for_all p e n l = rw (every_up_to p (λ i. i) (suc most_years) n e (omega arith)) tt

low_positive : (n : ℕ) → n ≤ most_years → T (positive (lowest n))
unfolding every up_to lowest mul
low_positive = for_all (λ n. positive (lowest n)) refl

high_positive : (n : ℕ) → n ≤ most_years → T (positive (highest n))
unfolding every up_to highest mul
high_positive = for_all (λ n. positive (highest n)) refl

low_product : (n : ℕ) → n ≤ most_years → T (positive (mul binary64 (lowest n) index_scale))
unfolding every up_to lowest mul
low_product = for_all (λ n. positive (mul binary64 (lowest n) index_scale)) refl

high_product : (n : ℕ) → n ≤ most_years → T (positive (mul binary64 (highest n) index_scale))
unfolding every up_to highest mul
high_product = for_all (λ n. positive (mul binary64 (highest n) index_scale)) refl

low_index : (n : ℕ) → n ≤ most_years → least_index ≤ nearest_whole (mul binary64 (lowest n) index_scale)
unfolding every up_to lowest mul nearest_whole
low_index n l = leb→le least_index (nearest_whole (mul binary64 (lowest n) index_scale)) (for_all (λ n. leb least_index (nearest_whole (mul binary64 (lowest n) index_scale))) refl n l)

-- a float that is not below another has no lower index

cross_nearest : (n d m e w : ℕ) → 0 < d → w * (2 * d) ≤ 2 * n + d → n * e ≤ m * d → w * (2 * e) ≤ 2 * m + e
cross_nearest n d m e w p h k = le_of_mul-le-mul_right {k = d} (omega (arith, mul-le-mul_right e h)) p

nearest_mono : (x y : Float) → T (positive x) → T (positive y) → T (le x y) → nearest_whole x ≤ nearest_whole y
unfolding nearest_whole
nearest_mono x y p q h = go x y p q (le→cross x y p q h)
  where
    go : (x y : Float) → T (positive x) → T (positive y) → num x * den y ≤ num y * den x → nearest_whole x ≤ nearest_whole y
    go nan y p q k = absurd p
    go (inf s) y p q k = absurd p
    go (fin true m e) y p q k = absurd p
    go (fin false m e) nan p q k = absurd q
    go (fin false m e) (inf t) p q k = absurd q
    go (fin false m e) (fin true n d) p q k = absurd q
    go (fin false m e) (fin false n d) p q k =
        (le-div_iff_mul-le {k = 2 * down d} (omega (arith, down_pos d))).1
        (cross_nearest (m * up e) (down e) (n * up d) (down d) ((2 * (m * up e) + down e) / (2 * down e)) (down_pos e) (div-mul-le_self (2 * (m * up e) + down e) (2 * down e)) k)

module _ (rates : ℕ → Float) (fit : (n : ℕ) → n < most_years → rate_fits (rates n) ≡ true) where
  -- the path after n years
  path_within : (n : ℕ) → n ≤ most_years → T (positive (path_after rates n)) × (T (le (lowest n) (path_after rates n)) × T (le (path_after rates n) (highest n)))
  unfolding path_after lowest highest le
  path_within zero l = (tt, (tt, tt))
  path_within (suc n) l =
      let i = path_within n (omega arith) in
      let p = path_after rates n in
      let g = add binary64 one (rates n) in
      let f = factor_within (rates n) (rate_within (rates n) (fit n (omega arith))) in
      let g-positive : T (positive g) = between half g two tt tt f.0 f.1 in
      let above : T (le (lowest (suc n)) (mul binary64 p g)) = mul_mono binary64 (lowest n) p half g (low_positive n (omega arith)) i.0 tt g-positive i.1.0 f.0 in
      let under : T (le (mul binary64 p g) (highest (suc n))) = mul_mono binary64 p (highest n) g two i.0 (high_positive n (omega arith)) g-positive tt i.1.1 f.1 in
      (between (lowest (suc n)) (mul binary64 p g) (highest (suc n)) (low_positive (suc n) l) (high_positive (suc n) l) above under, (above, under))

  -- it is finite and above zero
  pub path_positive : (n : ℕ) → n ≤ most_years → positive (path_after rates n) ≡ true
  path_positive n l = is_true (positive (path_after rates n)) (path_within n l).0

  -- and its index is not below 15
  pub index_least : (n : ℕ) → n ≤ most_years → least_index ≤ nearest_whole (mul binary64 (path_after rates n) index_scale)
  unfolding le
  index_least n l =
      let i = path_within n l in
      let p = path_after rates n in
      let above : T (le (mul binary64 (lowest n) index_scale) (mul binary64 p index_scale)) = mul_mono binary64 (lowest n) p index_scale index_scale (low_positive n l) i.0 tt tt i.1.0 tt in
      let under : T (le (mul binary64 p index_scale) (mul binary64 (highest n) index_scale)) = mul_mono binary64 p (highest n) index_scale index_scale i.0 (high_positive n l) tt tt i.1.1 tt in
      let here : T (positive (mul binary64 p index_scale)) = between (mul binary64 (lowest n) index_scale) (mul binary64 p index_scale) (mul binary64 (highest n) index_scale) (low_product n l) (high_product n l) above under in
      le_trans (low_index n l) (nearest_mono (mul binary64 (lowest n) index_scale) (mul binary64 p index_scale) (low_product n l) here above)
