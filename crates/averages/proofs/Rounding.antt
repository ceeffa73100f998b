-- The average as the code divides: half the divisor away from zero, then toward zero, and of a half the even neighbour. Assumes nothing.
use mathlib.Core.Path.{◌≡◌, refl, sym, ap, subst, ◌∙◌}
use mathlib.Core.Bool.{Bool, true, false}
use Prim.Native.Nat.{ℕ, zero, suc, ◌+◌, ◌-◌, ◌*◌, ◌/◌, ◌%◌, ◌^◌, ◌≤◌, ◌<◌}
use native.Mathlib.Nat.{div-lt_iff_lt-mul, div-add-mod, mod-lt, not-suc-le-zero}
use native.Mathlib.Omega.{arith}
use borrow.Author.Tests.{ltb-true}
use lib.Dec.{T}
use lib.IntN.{ℤ, pos, negsuc, nat_abs, ◌+ℤ◌, ◌-ℤ◌, ◌*ℤ◌, neg_ℤ-+ℤ}
use lib.Signed.{lt_z, quot_z, rem_z}
use mir.Syntax.{w64}
use mir.Val.{SFits, to_z, of_z}
use mir.ValLaws.{to_z_pos}
use mir.Facts.{to_z-of_z}
use Rattle.rules.specs.Record.{signed_of, sign_of, million, most_amount}
use Rattle.rules.specs.Triangle.{nearest, average_of}
use Rattle.totals.specs.CellSizes.{most_average}
use Rattle.laws.proofs.Signed.{held, size_fits, signed_size, times_size, signed_quotient, signed_remainder, signed_zero, sign_again}
use Rattle.averages.proofs.Halves.{apart, even, nearest_least}

-- the largest average of a whole number
divided_most : (a n : ℕ) → a ≤ most_amount → 1 ≤ n → (200 * a + n) / (2 * n) ≤ most_average
divided_most a n h l =
    let positive : 0 < 2 * n = omega arith in
    let room : 200 * a + n < (most_average + 1) * (2 * n) = omega arith in
    let below : (200 * a + n) / (2 * n) < most_average + 1 = (div-lt_iff_lt-mul positive).1 room in
    omega arith

nearest_most : (a n : ℕ) → a ≤ most_amount → 1 ≤ n → nearest a n ≤ most_average
nearest_most a n h l = omega (arith, divided_most a n h l, nearest_least a n l)

-- the largest average: 100 × 10^10 over one claim
pub average_most : (p : ℤ) (n : ℕ) → nat_abs p ≤ most_amount → 1 ≤ n → nat_abs (average_of p n) ≤ most_average
unfolding average_of
average_most p n h l = rw (signed_size (sign_of p) (nearest (nat_abs p) n)) (nearest_most (nat_abs p) n h l)

-- the amount times 200, by the claims further away from zero
abbrev pub away : ℤ → ℕ → ℤ
away p n = signed_of (sign_of p) (200 * nat_abs p + n)

-- for an amount below zero the claims are taken off, for another they are added
away_below : (p : ℤ) (n : ℕ) → lt_z p (pos 0) ≡ true → pos 200 *ℤ p -ℤ pos n ≡ away p n
away_below (pos a) n t = absurd (not-suc-le-zero (ltb-true a 0 t))
away_below (negsuc a) n t = sym (neg_ℤ-+ℤ (pos (200 * suc a)) (pos n))

away_above : (p : ℤ) (n : ℕ) → lt_z p (pos 0) ≡ false → pos 200 *ℤ p +ℤ pos n ≡ away p n
away_above (pos a) n t = refl
away_above (negsuc a) n t = absurd (subst (λ (b : Bool). T b) t tt)

-- the amount times 200, as the code holds it
abbrev pub times : ℤ → ℤ
times p = held (pos 200 *ℤ held p)

module _ (p : ℤ) (n : ℕ) (range : (nat_abs p ≤ most_amount) × (n ≤ million)) where
  -- the amount, the claims and the product are read as they are
  amount : held p ≡ p
  amount = to_z-of_z (size_fits p (omega arith))

  claims : to_z w64 n ≡ pos n
  claims = to_z_pos w64 n (omega arith)

  -- the amount times 200 fits
  pub product_fits : SFits w64 (pos 200 *ℤ held p)
  product_fits = rw amount (size_fits (pos 200 *ℤ p) (omega (arith, times_size 200 p)))

  product : times p ≡ pos 200 *ℤ p
  product = to_z-of_z product_fits ∙ ap (λ (z : ℤ). pos 200 *ℤ z) amount

  -- the dividend of an amount below zero, and of one that is not
  pub dividend_below : lt_z (held p) (pos 0) ≡ true → times p -ℤ to_z w64 n ≡ away p n
  dividend_below t = rw (product, claims) (away_below p n (rw amount at t))

  pub dividend_above : lt_z (held p) (pos 0) ≡ false → times p +ℤ to_z w64 n ≡ away p n
  dividend_above t = rw (product, claims) (away_above p n (rw amount at t))

  -- it fits
  pub dividend_fits : SFits w64 (away p n)
  dividend_fits = size_fits (away p n) (rw (signed_size (sign_of p) (200 * nat_abs p + n)) (omega arith))

-- a remainder by sign and size is read as 0 where its size is, and only there
read_zero : (b m : ℕ) (z : ℤ) → z ≡ signed_of b m → m < 2 ^ 63 → of_z w64 z ≡ 0 → m ≡ 0
read_zero b m z e h r =
    let fits : SFits w64 (signed_of b m) = size_fits (signed_of b m) (rw (signed_size b m) h) in
    sym (signed_size b m) ∙ ap nat_abs (sym (to_z-of_z fits) ∙ ap (to_z w64) (rw e at r))

read_some : (b m : ℕ) (z : ℤ) → z ≡ signed_of b m → (of_z w64 z ≡ 0 → ⊥) → 0 < m
read_some b zero z e o = absurd (o (rw (e, signed_zero b)))
read_some b (suc m) z e o = omega arith

-- the quotient and what is left over, as the code divides
abbrev pub quotient : ℤ → ℕ → ℤ
quotient t n = quot_z (held t) (held (pos 2 *ℤ to_z w64 n))

abbrev left : ℤ → ℕ → ℤ
left t n = rem_z (held t) (held (pos 2 *ℤ to_z w64 n))

module _ (p : ℤ) (n : ℕ) (range : (nat_abs p ≤ most_amount) × ((1 ≤ n) × (n ≤ million))) where
  size : ℕ
  size = 200 * nat_abs p + n

  divided : size / (2 * n) ≤ most_average
  unfolding size
  divided = divided_most (nat_abs p) n range.0 range.1.0

  rest_room : size % (2 * n) < 2 ^ 63
  rest_room = omega (arith, mod-lt size {m = 2 * n} (omega arith))

  -- the divisor fits, and is not zero
  double : pos 2 *ℤ to_z w64 n ≡ pos (2 * n)
  double = rw (to_z_pos w64 n (omega arith))

  pub divisor_fits : SFits w64 (pos 2 *ℤ to_z w64 n)
  divisor_fits = rw double (record { sfits = omega arith })

  divisor_some : 0 < of_z w64 (pos 2 *ℤ to_z w64 n)
  divisor_some = rw double (omega arith)

  module _ (t : ℤ) (e : t ≡ away p n) where
    fits : SFits w64 t
    fits = rw e (dividend_fits p n (range.0, range.1.1))

    -- the quotient and the remainder have the amount's sign
    quotient_is : quotient t n ≡ signed_of (sign_of p) (size / (2 * n))
    unfolding size
    quotient_is = rw (to_z-of_z fits, to_z-of_z divisor_fits, double, e) (signed_quotient (sign_of p) (200 * nat_abs p + n) (2 * n))

    left_is : left t n ≡ signed_of (sign_of p) (size % (2 * n))
    unfolding size
    left_is = rw (to_z-of_z fits, to_z-of_z divisor_fits, double, e) (signed_remainder (sign_of p) (200 * nat_abs p + n) (2 * n))

    -- the division is one, and its quotient fits
    pub quotient_room : nat_abs (quotient t n) < 2 ^ 63
    quotient_room = rw (quotient_is, signed_size (sign_of p) (size / (2 * n))) (omega (arith, divided))

    pub quotient_fits : (0 < of_z w64 (pos 2 *ℤ to_z w64 n)) × SFits w64 (quotient t n)
    quotient_fits = (divisor_some, size_fits (quotient t n) quotient_room)

    -- what the code reads of it tells whether nothing is left over
    none : of_z w64 (left t n) ≡ 0 → size % (2 * n) ≡ 0
    none z = read_zero (sign_of p) (size % (2 * n)) (left t n) left_is rest_room z

    some : (of_z w64 (left t n) ≡ 0 → ⊥) → 0 < size % (2 * n)
    some z = read_some (sign_of p) (size % (2 * n)) (left t n) left_is z

    -- 100 × the amount's size in claims, and the rest
    split : n * (100 * nat_abs p / n) + 100 * nat_abs p % n ≡ 100 * nat_abs p
    split = div-add-mod (100 * nat_abs p) n

    part : 100 * nat_abs p % n < n
    part = mod-lt (100 * nat_abs p) (omega arith)

    -- the average, within its limit
    average_is : (z : ℤ) → z ≡ average_of p n → (z ≡ average_of p n) × (nat_abs z ≤ most_average)
    average_is z w = (w, rw w (average_most p n range.0 range.1.0))

    -- the quotient as it is read
    read_quotient : held (quotient t n) ≡ signed_of (sign_of p) (size / (2 * n))
    read_quotient = to_z-of_z quotient_fits.1 ∙ quotient_is

    -- it is the average where something is left over
    pub apart_is : (of_z w64 (left t n) ≡ 0 → ⊥)
        → (held (quotient t n) ≡ average_of p n) × (nat_abs (held (quotient t n)) ≤ most_average)
    unfolding size average_of nearest
    apart_is z = average_is _ (read_quotient ∙ ap (signed_of (sign_of p)) (apart (nat_abs p) n (100 * nat_abs p / n) (100 * nat_abs p % n) split part (some z)))

    odd : rem_z (held (quotient t n)) (pos 2) ≡ signed_of (sign_of p) (size / (2 * n) % 2)
    odd = rw read_quotient (signed_remainder (sign_of p) (size / (2 * n)) 2)

    -- where nothing is left over: the quotient, if it is even
    module _ (half : of_z w64 (left t n) ≡ 0) where
      whole : size / (2 * n) - size / (2 * n) % 2 ≡ nearest (nat_abs p) n
      unfolding size nearest
      whole = even (nat_abs p) n (100 * nat_abs p / n) (100 * nat_abs p % n) split part (none half)

      pub even_is : of_z w64 (rem_z (held (quotient t n)) (pos 2)) ≡ 0 → (held (quotient t n) ≡ average_of p n) × (nat_abs (held (quotient t n)) ≤ most_average)
      unfolding average_of
      even_is z =
          let e : size / (2 * n) % 2 ≡ 0 = read_zero (sign_of p) (size / (2 * n) % 2) _ odd (omega arith) z in
          let due : size / (2 * n) ≡ nearest (nat_abs p) n = omega (arith, whole) in
          average_is _ (read_quotient ∙ ap (signed_of (sign_of p)) due)

      -- the next number toward zero, if it is odd
      pub odd_is : (of_z w64 (rem_z (held (quotient t n)) (pos 2)) ≡ 0 → ⊥)
          → (z : ℤ) → z ≡ signed_of (sign_of (held (quotient t n))) (nat_abs (held (quotient t n)) - 1)
          → (z ≡ average_of p n) × (nat_abs z ≤ most_average)
      unfolding average_of
      odd_is o z e =
          let one : 0 < size / (2 * n) % 2 = read_some (sign_of p) (size / (2 * n) % 2) _ odd o in
          let nearer : signed_of (sign_of (signed_of (sign_of p) (size / (2 * n)))) (size / (2 * n) - 1) ≡ signed_of (sign_of p) (size / (2 * n) - 1)
          = sign_again (sign_of p) (size / (2 * n)) (size / (2 * n) - 1) (λ w. omega arith) in
          let due : size / (2 * n) - 1 ≡ nearest (nat_abs p) n = omega (arith, whole) in
          average_is z (rw (read_quotient, signed_size (sign_of p) (size / (2 * n))) at e ∙ nearer ∙ ap (signed_of (sign_of p)) due)
