-- Decimals: a digit more than enough changes nothing, how long a number is, and numbers without their last digits. Assumes nothing.
use mathlib.Core.Path.{◌≡◌, refl, sym, ap, ◌∙◌}
use mathlib.Core.Bool.{cond}
use mathlib.Core.List.{List, [], ◌∷◌, ◌++◌}
use Prim.Native.Nat.{ℕ, zero, suc, ◌+◌, ◌-◌, ◌/◌, ◌%◌, ◌^◌, ◌≤◌, ◌<◌}
use native.Mathlib.Decide.{dec_lt}
use native.Mathlib.Nat.{pow-suc}
use native.Mathlib.Numerals.{add-one}
use native.Mathlib.Omega.{arith}
use borrow.Author.Tests.{lt-ltb, le-ltb}
use lib.Dec.{ltb}
use lib.IntN.{ℤ, pos, negsuc, nat_abs}
use lib.ListN.{length, length-append, replicate, length-replicate, take}
use Rattle.std.proofs.lemmas.List.{take-replicate}
use Rattle.rules.specs.Lists.{up_to}
use Rattle.laws.proofs.Lists.{up_to_ext}
use Rattle.composing.specs.Text.{Put, digit, last_digits_of, decimal_in, decimal, sign, integer, without, fixed, spaces, right}
use Rattle.composing.proofs.Puts.{put_none, put_append, put_four, put_same}

-- one digit
pub digits_one : (m n : ℕ) → n < 10 → decimal_in (suc m) n ≡ digit n ∷ []
unfolding decimal_in
digits_one m n h = rw (lt-ltb n 10 h)

-- the last digit apart
pub digits_last : (m n : ℕ) → 10 ≤ n → decimal_in (suc m) n ≡ decimal_in m (n / 10) ++ (digit (n % 10) ∷ [])
unfolding decimal_in
digits_last m n h = rw (le-ltb n 10 h)

-- where m digits are enough, one more changes nothing
enough : (m n : ℕ) → n < 10 ^ suc m → decimal_in (suc (suc m)) n ≡ decimal_in (suc m) n
unfolding decimal_in
enough zero n h = rw (lt-ltb n 10 (omega arith))
enough (suc m) n h =
    ap (λ (l : List ℕ). cond (ltb n 10) (digit n ∷ []) (l ++ (digit (n % 10) ∷ [])))
    (enough m (n / 10) (omega (arith, pow-suc 10 (suc m))))

-- a number below 10 is one digit
pub decimal_digit : (n : ℕ) → n < 10 → decimal n ≡ digit n ∷ []
unfolding decimal
decimal_digit n h = digits_one 19 n h

-- and any other of 64 bits is its decimal without the last digit, and the last digit
pub decimal_digits : (n : ℕ) → n < 2 ^ 64 → 10 ≤ n → decimal n ≡ decimal (n / 10) ++ (digit (n % 10) ∷ [])
unfolding decimal
decimal_digits n h l = digits_last 19 n l ∙ ap (λ (l : List ℕ). l ++ (digit (n % 10) ∷ [])) (sym (enough 18 (n / 10) (omega arith)))

-- how long the decimal of a number of 64 bits is
pub length_digit : (n : ℕ) → n < 10 → length (decimal n) ≡ 1
length_digit n h = rw (decimal_digit n h)

pub length_digits : (n : ℕ) → n < 2 ^ 64 → 10 ≤ n → length (decimal n) ≡ length (decimal (n / 10)) + 1
length_digits n h l = rw (decimal_digits n h l) (length-append (decimal (n / 10)) (digit (n % 10) ∷ []))

in_most : (m n : ℕ) → length (decimal_in m n) ≤ m
unfolding decimal_in
in_most zero n = omega arith
in_most (suc m) n = go (in_most m (n / 10)) (dec_lt n 10)
  where
    go : length (decimal_in m (n / 10)) ≤ m → Dec (n < 10) → length (decimal_in (suc m) n) ≤ suc m
    go most (yes h) = rw (digits_one m n h) (omega arith)
    go most (no h) = rw (digits_last m n (omega arith)) (omega (arith, length-append (decimal_in m (n / 10)) (digit (n % 10) ∷ [])))

pub length_most : (n : ℕ) → length (decimal n) ≤ 20
unfolding decimal
length_most n = in_most 20 n

pub length_last : (m n : ℕ) → length (last_digits_of m n) ≡ m
unfolding last_digits_of
length_last zero n = refl
length_last (suc m) n = omega (arith, length-append (last_digits_of m (n / 10)) (digit (n % 10) ∷ []), length_last m (n / 10))

pub length_sign : (z : ℤ) → length (sign z) ≤ 1
unfolding sign
length_sign (pos n) = omega arith
length_sign (negsuc n) = omega arith

-- one digit more left out
without_suc : (d n : ℕ) → without (suc d) n ≡ without d n / 10
unfolding without
without_suc zero n = refl
without_suc (suc d) n = without_suc d (n / 10)

pub without_more : (d n : ℕ) → without (d + 1) n ≡ without d n / 10
without_more d n = rw (add-one d) (without_suc d n)

-- some of n spaces, and how long they are
pub spaces_taken : (m n : ℕ) → m ≤ n → replicate m 32 ≡ take m (spaces n)
unfolding spaces
spaces_taken m n h = sym (take-replicate m n 32 h)

pub spaces_length : (n : ℕ) → length (spaces n) ≡ n
unfolding spaces
spaces_length n = length-replicate n 32

-- a decimal put by its digits: one, or those of a tenth of the number and the last
pub put_digit : {a b : List ℕ} {i j x : ℕ} (n : ℕ) → n < 10 → x ≡ digit n → Put a b i j (x ∷ []) → Put a b i j (decimal n)
put_digit n h e p = put_same (ap (λ (y : ℕ). y ∷ []) e ∙ sym (decimal_digit n h)) p

pub put_digits : {a b c : List ℕ} {i j k x : ℕ} (n : ℕ) → n < 2 ^ 64 → 10 ≤ n → Put a b i j (decimal (n / 10)) → x ≡ digit (n % 10) → Put b c j k (x ∷ [])
    → Put a c i k (decimal n)
put_digits n h l p e q = rw (decimal_digits n h l) (put_append p (put_same (ap (λ (y : ℕ). y ∷ []) e) q))

-- the last m digits, one by one: digit i is the last digit of the number without the digits after it
abbrev pub digit_at : ℕ → ℕ → ℕ → ℕ
digit_at m n i = digit (without (m - (i + 1)) n % 10)

last_digits : (m n : ℕ) → last_digits_of m n ≡ up_to (digit_at m n) m
unfolding last_digits_of up_to without
last_digits zero n = refl
last_digits (suc m) n =
    let last : suc m - (m + 1) ≡ 0 = omega arith in
    let before : up_to (digit_at m (n / 10)) m ≡ up_to (digit_at (suc m) n) m = up_to_ext (digit_at m (n / 10)) (digit_at (suc m) n) m (λ i h. sym (one_less i (omega arith))) in
    rw (last, last_digits m (n / 10), before)
  where
    one_less : (i : ℕ) → i < m → digit_at (suc m) n i ≡ digit_at m (n / 10) i
    one_less i h =
        let e : suc m - (i + 1) ≡ suc (m - (i + 1)) = omega arith in
        rw e

pub put_last_first : (a : List ℕ) (i m n : ℕ) → Put a a i i (up_to (digit_at m n) 0)
unfolding up_to
put_last_first a i m n = put_none a i

pub put_last_more : {a b c : List ℕ} {h j l x y : ℕ} (m n i : ℕ) → Put a b h j (up_to (digit_at m n) i) → y ≡ without (m - (i + 1)) n → x ≡ digit (y % 10)
    → Put b c j l (x ∷ []) → Put a c h l (up_to (digit_at m n) (i + 1))
unfolding up_to
put_last_more m n i p e f q = rw (add-one i) (put_append p (rw (f, e) at q))

pub put_last_all : {a b : List ℕ} {i j : ℕ} (m n : ℕ) → Put a b i j (up_to (digit_at m n) m) → Put a b i j (last_digits_of m n)
put_last_all m n p = put_same (sym (last_digits m n)) p

-- a whole number: its sign and its size
pub put_signed : {a b c : List ℕ} {i j k n : ℕ} (z : ℤ) → n ≡ nat_abs z → Put a b i j (sign z) → Put b c j k (decimal n) → Put a c i k (integer z)
unfolding integer
put_signed z e p q = put_append p (rw e at q)

-- a number with d decimals: none, and some
pub fixed_whole : (d : ℕ) (z : ℤ) → d ≡ 0 → fixed d z ≡ integer z
unfolding fixed
fixed_whole d z e = rw e

fixed_part : (d : ℕ) (z : ℤ) → (d ≡ 0 → ⊥) → fixed d z ≡ sign z ++ (decimal (without d (nat_abs z)) ++ (46 ∷ last_digits_of d (nat_abs z)))
unfolding fixed
fixed_part zero z h = absurd (h refl)
fixed_part (suc d) z h = refl

pub put_decimals : {a b c d e : List ℕ} {h i j k l n w : ℕ} (m : ℕ) (z : ℤ) → (m ≡ 0 → ⊥) → n ≡ nat_abs z → w ≡ without m n → Put a b h i (sign z)
    → Put b c i j (decimal w) → Put c d j k (46 ∷ []) → Put d e k l (last_digits_of m n) → Put a e h l (fixed m z)
put_decimals m z some e f p q r s =
    put_same (sym (fixed_part m z some)) (put_four p (rw (f, e) at q) r (rw e at s))

-- how long a number with d decimals is
pub length_whole : (d : ℕ) (z : ℤ) → d ≡ 0 → length (fixed d z) ≡ length (decimal (without d (nat_abs z))) + length (sign z) + d
unfolding without integer
length_whole d z e = rw (fixed_whole d z e, e) (omega (arith, length-append (sign z) (decimal (nat_abs z))))

pub length_fixed : (d : ℕ) (z : ℤ) → (d ≡ 0 → ⊥) → length (fixed d z) ≡ length (decimal (without d (nat_abs z))) + length (sign z) + 1 + d
length_fixed d z h =
    let n = nat_abs z in
    let w = decimal (without d n) in
    rw (fixed_part d z h)
    (omega (arith, length-append (sign z) (w ++ (46 ∷ last_digits_of d n)), length-append w (46 ∷ last_digits_of d n), length_last d n))

-- a text at the right of w places: the spaces that are left, and the text
pub put_at_right : {a b c : List ℕ} {i j k n : ℕ} (w : ℕ) (xs : List ℕ) → n ≡ w - length xs → Put a b i j (spaces n) → Put b c j k xs
    → Put a c i k (right w xs)
unfolding right
put_at_right w xs e p q = put_append (rw e at p) q
