-- A number in decimal read again: it is made of digits, and gives its value back. Assumes nothing.
use mathlib.Core.Path.{◌≡◌, refl, ap, ◌∙◌}
use mathlib.Core.Bool.{Bool, true, false, not, ◌&&◌}
use mathlib.Core.List.{List, [], ◌∷◌, ◌++◌}
use Prim.Native.Nat.{ℕ, zero, suc, ◌+◌, ◌*◌, ◌/◌, ◌%◌, ◌^◌, ◌≤◌, ◌<◌}
use native.Mathlib.Decide.{dec_lt}
use native.Mathlib.Nat.{pow-suc}
use native.Mathlib.Omega.{arith}
use borrow.Author.Tests.{leb-true, lt-ltb, le-leb, ne_eqb}
use lib.Dec.{eqb, leb}
use lib.IntN.{ℤ, pos, negsuc, nat_abs}
use Rattle.rules.specs.Lists.{every}
use Rattle.rules.specs.Record.{signed_of}
use Rattle.laws.proofs.Lists.{every_append, both_left, both_right}
use Rattle.composing.specs.Text.{digit, decimal_in, decimal, sign, integer}
use Rattle.composing.proofs.Decimals.{digits_one, digits_last}
use Rattle.scanning.specs.Numbers.{is_digit, is_natural, is_number, ceiling, with_digit, size_from, whole_of}

-- a byte that stands within a word: no blank, comma, semicolon or quote; and one that ends no line or content
abbrev pub tame : ℕ → Bool
tame b = not (eqb b 35) && (not (eqb b 13) && not (eqb b 10))

abbrev pub plain : ℕ → Bool
plain b = not (eqb b 32) && (not (eqb b 9) && (not (eqb b 44) && (not (eqb b 59) && (not (eqb b 34) && tame b))))

-- the byte of a digit, and what is known of a byte that is a digit's
digit_is : (d : ℕ) → d < 10 → is_digit (digit d) ≡ true
digit_is d h = rw (le-leb 48 (48 + d) (omega arith), le-leb (48 + d) 57 (omega arith))

digit_range : (b : ℕ) → is_digit b ≡ true → (48 ≤ b) × (b ≤ 57)
digit_range b h = (leb-true 48 b (both_left (leb 48 b) (leb b 57) h), leb-true b 57 (both_right (leb 48 b) (leb b 57) h))

pub digit_plain : (b : ℕ) → is_digit b ≡ true → plain b ≡ true
digit_plain b h =
    let r = digit_range b h in
    rw (
      ne_eqb b 32 (λ e. omega (arith, r.0)),
      ne_eqb b 9 (λ e. omega (arith, r.0)),
      ne_eqb b 44 (λ e. omega (arith, r.0)),
      ne_eqb b 59 (λ e. omega (arith, r.1)),
      ne_eqb b 34 (λ e. omega (arith, r.0)),
      ne_eqb b 35 (λ e. omega (arith, r.0)),
      ne_eqb b 13 (λ e. omega (arith, r.0)),
      ne_eqb b 10 (λ e. omega (arith, r.0)),
    )

-- a test that holds wherever another does
pub every_of : {A : Type 0} (p q : A → Bool) → ((a : A) → p a ≡ true → q a ≡ true) → (xs : List A) → every p xs ≡ true → every q xs ≡ true
unfolding every
every_of p q f [] h = refl
every_of p q f (x ∷ xs) h = rw (f x (both_left (p x) (every p xs) h), every_of p q f xs (both_right (p x) (every p xs) h))

-- a decimal is digits
in_digits : (m n : ℕ) → every is_digit (decimal_in m n) ≡ true
unfolding decimal_in every
in_digits zero n = refl
in_digits (suc m) n = go (in_digits m (n / 10)) (dec_lt n 10)
  where
    go : every is_digit (decimal_in m (n / 10)) ≡ true → Dec (n < 10) → every is_digit (decimal_in (suc m) n) ≡ true
    go front (yes h) = rw (digits_one m n h, digit_is n h)
    go front (no h) =
        rw (digits_last m n (omega arith), every_append is_digit (decimal_in m (n / 10)) (digit (n % 10) ∷ []), front, digit_is (n % 10) (omega arith))

-- at least one
in_some : (m n : ℕ) → (b : ℕ) × ((bs : List ℕ) × (decimal_in (suc m) n ≡ b ∷ bs))
unfolding decimal_in
in_some m n = go m n (dec_lt n 10)
  where
    first : (xs : List ℕ) (x : ℕ) → (b : ℕ) × ((bs : List ℕ) × (xs ++ (x ∷ []) ≡ b ∷ bs))
    first [] x = (x, ([], refl))
    first (y ∷ ys) x = (y, (ys ++ (x ∷ []), refl))

    go : (m n : ℕ) → Dec (n < 10) → (b : ℕ) × ((bs : List ℕ) × (decimal_in (suc m) n ≡ b ∷ bs))
    go m n (yes h) = (digit n, ([], digits_one m n h))
    go m n (no h) =
        let (b, (bs, e)) = first (decimal_in m (n / 10)) (digit (n % 10)) in
        (b, (bs, digits_last m n (omega arith) ∙ e))

pub digits_only : (n : ℕ) → every is_digit (decimal n) ≡ true
unfolding decimal
digits_only n = in_digits 20 n

pub digits_some : (n : ℕ) → (b : ℕ) × ((bs : List ℕ) × (decimal n ≡ b ∷ bs))
unfolding decimal
digits_some n = in_some 19 n

-- digits and then further digits
size_append : (n : ℕ) (xs ys : List ℕ) → size_from n (xs ++ ys) ≡ size_from (size_from n xs) ys
unfolding size_from
size_append n [] ys = refl
size_append n (x ∷ xs) ys = size_append (with_digit n x) xs ys

-- one digit more
digit_more : (n d : ℕ) → n < ceiling → with_digit n (digit d) ≡ 10 * n + d
unfolding with_digit
digit_more n d h = rw (lt-ltb n ceiling h) (omega arith)

-- a decimal below the ceiling gives its value
in_value : (m n : ℕ) → n < 10 ^ m → n < ceiling → size_from 0 (decimal_in m n) ≡ n
unfolding size_from decimal_in
in_value zero n h l = omega arith
in_value (suc m) n h l = go (in_value m (n / 10) (omega (arith, pow-suc 10 m)) (omega arith)) (dec_lt n 10)
  where
    go : size_from 0 (decimal_in m (n / 10)) ≡ n / 10 → Dec (n < 10) → size_from 0 (decimal_in (suc m) n) ≡ n
    go front (yes e) = rw (digits_one m n e, digit_more 0 n (omega arith)) (omega arith)
    go front (no e) =
        rw (digits_last m n (omega arith), size_append 0 (decimal_in m (n / 10)) (digit (n % 10) ∷ []), front, digit_more (n / 10) (n % 10) (omega arith))
        (omega arith)

pub decimal_value : (n : ℕ) → n < ceiling → size_from 0 (decimal n) ≡ n
unfolding decimal
decimal_value n h = in_value 20 n (omega arith) h

-- a decimal is a whole number that is not below zero
natural_is : (n : ℕ) → is_natural (decimal n) ≡ true
unfolding is_natural
natural_is n =
    let (b, (bs, e)) = digits_some n in
    rw e (rw e at (digits_only n))

-- its first byte is no minus sign
first_digit : (b : ℕ) (bs : List ℕ) → every is_digit (b ∷ bs) ≡ true → eqb b 45 ≡ false
unfolding every
first_digit b bs h = ne_eqb b 45 (λ e. omega (arith, (digit_range b (both_left (is_digit b) (every is_digit bs) h)).0))

-- every number, written and tested
pub integer_number : (z : ℤ) → is_number (integer z) ≡ true
unfolding integer sign is_number is_natural
integer_number (pos n) =
    let (b, (bs, e)) = digits_some n in
    let d : every is_digit (b ∷ bs) ≡ true = rw e at (digits_only n) in
    rw (e, first_digit b bs d) d
integer_number (negsuc n) = natural_is (suc n)

-- and read
pub integer_value : (z : ℤ) → nat_abs z < ceiling → whole_of (integer z) ≡ z
unfolding integer sign whole_of
integer_value (pos n) h =
    let (b, (bs, e)) = digits_some n in
    let d : every is_digit (b ∷ bs) ≡ true = rw e at (digits_only n) in
    rw (e, first_digit b bs d) (ap pos (rw e at (decimal_value n h)))
integer_value (negsuc n) h = ap (signed_of 1) (decimal_value (suc n) h)

-- it is one word: at least one byte, and every byte plain
pub integer_plain : (z : ℤ) → every plain (integer z) ≡ true
unfolding integer sign every
integer_plain (pos n) = every_of is_digit plain digit_plain (decimal n) (digits_only n)
integer_plain (negsuc n) = every_of is_digit plain digit_plain (decimal (suc n)) (digits_only (suc n))

pub integer_some : (z : ℤ) → (b : ℕ) × ((bs : List ℕ) × (integer z ≡ b ∷ bs))
unfolding integer sign
integer_some (pos n) = digits_some n
integer_some (negsuc n) = (45, (decimal (suc n), refl))
