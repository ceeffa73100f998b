-- How long numbers are at most, whatever the number. Assumes nothing.
use mathlib.Core.Path.{◌≡◌, refl, ap, ◌∙◌}
use mathlib.Core.List.{List, [], ◌∷◌, ◌++◌}
use Prim.Native.Nat.{ℕ, zero, suc, ◌+◌, ◌-◌, ◌*◌, ◌/◌, ◌%◌, ◌^◌, ◌≤◌, ◌<◌}
use native.Mathlib.Decide.{dec_lt}
use native.Mathlib.Nat.{pow-le-pow_right}
use native.Mathlib.Omega.{arith}
use lib.IntN.{ℤ, nat_abs}
use lib.ListN.{length, length-append}
use Rattle.composing.specs.Text.{ascii, last_digits_of, decimal, sign, without, fixed}
use Rattle.composing.proofs.Decimals.{length_most, length_last, length_sign, length_digit, length_digits, length_whole, length_fixed}
use Rattle.numerals.specs.Numerals.{grouped_in, grouped, numeral, number, spaced}
use Rattle.numerals.proofs.Groups.{groups_one, groups_last, enough}

-- a number below 1000 has at most three digits
few_digits : (n : ℕ) → n < 1000 → length (decimal n) ≤ 3
few_digits n h = go (dec_lt n 10) (dec_lt n 100)
  where
    go : Dec (n < 10) → Dec (n < 100) → length (decimal n) ≤ 3
    go (yes l) most = omega (arith, length_digit n l)
    go (no l) (yes m) = omega (arith, length_digits n (omega arith) (omega arith), length_digit (n / 10) (omega arith))
    go (no l) (no m) =
        omega
        (arith, length_digits n (omega arith) (omega arith), length_digits (n / 10) (omega arith) (omega arith), length_digit (n / 10 / 10) (omega arith))

-- a number in decimal
pub decimal_most : (n : ℕ) → length (decimal n) ≤ 20
decimal_most n = length_most n

-- with decimals
pub fixed_most : (d : ℕ) (z : ℤ) → length (fixed d z) ≤ 22 + d
fixed_most zero z = omega (arith, length_whole 0 z refl, length_most (without 0 (nat_abs z)), length_sign z)
fixed_most (suc d) z =
    omega (arith, length_fixed (suc d) z (λ e. absurd (omega arith)), length_most (without (suc d) (nat_abs z)), length_sign z)

-- in groups: three digits, and for each group after the first a gap and three more
groups_most : (before after : List ℕ) (m n : ℕ) → length (grouped_in m before after n) ≤ 3 + m * (3 + (length before + length after))
unfolding grouped_in
groups_most before after zero n = omega (arith, few_digits (n % 1000) (omega arith))
groups_most before after (suc m) n = go (groups_most before after m (n / 1000)) (dec_lt n 1000)
  where
    go : length (grouped_in m before after (n / 1000)) ≤ 3 + m * (3 + (length before + length after)) → Dec (n < 1000)
        → length (grouped_in (suc m) before after n) ≤ 3 + suc m * (3 + (length before + length after))
    go most (yes h) = rw (groups_one before after m n h) (omega (arith, few_digits n h))
    go most (no h) =
        rw (groups_last before after m n (omega arith))
        (omega
        (arith, most, length-append (grouped_in m before after (n / 1000)) (before ++ (last_digits_of 3 n ++ after)), length-append before (last_digits_of 3 n ++ after), length-append (last_digits_of 3 n) after, length_last 3 n))

-- more groups than a number has change nothing
groups_same : (before after : List ℕ) (m k n : ℕ) → n < 1000 ^ suc m → grouped_in (k + m) before after n ≡ grouped_in m before after n
groups_same before after m zero n h = let e : 0 + m ≡ m = omega arith in rw e
groups_same before after m (suc k) n h =
    let e : suc k + m ≡ suc (k + m) = omega arith in
    rw e (enough before after (k + m) n (omega (arith, h, pow-le-pow_right {n = 1000} (omega arith) {i = suc m} {j = suc (k + m)} (omega arith))) ∙ groups_same before after m k n h)

grouped_size : (before after : List ℕ) (m n : ℕ) → m ≤ 6 → n < 1000 ^ suc m → length (grouped before after n) ≤ 3 + m * (3 + (length before + length after))
unfolding grouped
grouped_size before after m n few h =
    let e : 6 ≡ 6 - m + m = omega arith in
    rw (ap (λ (k : ℕ). grouped_in k before after n) e, groups_same before after m (6 - m) n h) (groups_most before after m n)

-- leaving digits out makes a number no larger
without_most : (d n : ℕ) → without d n ≤ n
unfolding without
without_most zero n = omega arith
without_most (suc d) n = omega (arith, without_most d (n / 10))

-- a numeral whose whole part has at most b places
numeral_by : (before after : List ℕ) (b d : ℕ) (z : ℤ) → length (grouped before after (without d (nat_abs z))) ≤ b → length (numeral before after d z) ≤ 2 + (b + d)
unfolding numeral without
numeral_by before after b zero z h = omega (arith, h, length_sign z, length-append (sign z) (grouped before after (nat_abs z)))
numeral_by before after b (suc d) z h =
    let n = nat_abs z in
    let w = grouped before after (without (suc d) n) in
    omega
    (arith, h, length_sign z, length_last (suc d) n, length-append (sign z) (w ++ (46 ∷ last_digits_of (suc d) n)), length-append w (46 ∷ last_digits_of (suc d) n))

-- whatever the number
pub number_most : (d : ℕ) (z : ℤ) → length (number d z) ≤ 65 + d
unfolding number grouped
number_most d z =
    omega (arith, numeral_by (ascii "<i>") (ascii "</i>") 63 d z (groups_most (ascii "<i>") (ascii "</i>") 6 (without d (nat_abs z))))

pub spaced_most : (d : ℕ) (z : ℤ) → length (spaced d z) ≤ 29 + d
unfolding spaced grouped
spaced_most d z = omega (arith, numeral_by (ascii " ") [] 27 d z (groups_most (ascii " ") [] 6 (without d (nat_abs z))))

-- and a number of at most m groups after the first
pub number_size : (m d : ℕ) (z : ℤ) → m ≤ 6 → nat_abs z < 1000 ^ suc m → length (number d z) ≤ 5 + 10 * m + d
unfolding number
number_size m d z few h =
    omega
    (arith, numeral_by (ascii "<i>") (ascii "</i>") (3 + m * 10) d z (grouped_size (ascii "<i>") (ascii "</i>") m (without d (nat_abs z)) few (omega (arith, without_most d (nat_abs z)))))
