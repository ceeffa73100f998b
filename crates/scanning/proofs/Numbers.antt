-- Laws of words that are numbers: by their first byte, and digit by digit. Assumes nothing.
use mathlib.Core.Path.{◌≡◌, refl, sym, ◌∙◌}
use mathlib.Core.Bool.{Bool, true, false, and-true, false≢true}
use mathlib.Core.List.{List, [], ◌∷◌}
use Prim.Native.Nat.{ℕ, ◌+◌, ◌-◌, ◌*◌, ◌≤◌, ◌<◌}
use native.Mathlib.Numerals.{add-one}
use native.Mathlib.Omega.{arith}
use borrow.Author.Tests.{lt-ltb, le-ltb}
use lib.IntN.{pos, neg_ℤ}
use lib.ListN.{length, get_or, take, drop}
use lib.Seq.{drop-cons, drop-length}
use lib.Dec.{eqb}
use Rattle.std.specs.Str.{bytes_eq}
use Rattle.rules.specs.Lists.{every}
use Rattle.scanning.specs.Numbers.{is_digit, is_natural, is_number, ceiling, with_digit, size_from, whole_of}

-- a word that is not empty is a natural number where every byte is a digit
pub natural_is : (xs : List ℕ) → 0 < length xs → is_natural xs ≡ every is_digit xs
unfolding is_natural
natural_is [] h = absurd (omega arith)
natural_is (b ∷ bs) h = refl

-- whether a word begins with a minus sign, as a prefix is sought
abbrev minus : List ℕ → Bool
minus xs = bytes_eq (take 1 xs) (45 ∷ [])

-- by the first byte, a minus sign or not
pub number_minus : (xs : List ℕ) → minus xs ≡ true → is_number xs ≡ is_natural (drop 1 xs)
unfolding is_number
number_minus [] e = absurd (false≢true e)
number_minus (b ∷ bs) e = rw (sym (and-true (eqb b 45)) ∙ e)

pub number_plain : (xs : List ℕ) → minus xs ≡ false → is_number xs ≡ is_natural xs
unfolding is_number is_natural
number_plain [] e = refl
number_plain (b ∷ bs) e = rw (sym (and-true (eqb b 45)) ∙ e)

pub whole_minus : (xs : List ℕ) → minus xs ≡ true → whole_of xs ≡ neg_ℤ (pos (size_from 0 (drop 1 xs)))
unfolding whole_of
whole_minus [] e = absurd (false≢true e)
whole_minus (b ∷ bs) e = rw (sym (and-true (eqb b 45)) ∙ e)

pub whole_plain : (xs : List ℕ) → minus xs ≡ false → whole_of xs ≡ pos (size_from 0 xs)
unfolding whole_of size_from
whole_plain [] e = refl
whole_plain (b ∷ bs) e = rw (sym (and-true (eqb b 45)) ∙ e)

-- a digit more, below 10^17 and from there on
pub digit_more : (n b : ℕ) → n < ceiling → with_digit n b ≡ 10 * n + (b - 48)
unfolding with_digit
digit_more n b h = rw (lt-ltb n ceiling h)

pub digit_stops : (n b : ℕ) → ceiling ≤ n → with_digit n b ≡ n
unfolding with_digit
digit_stops n b h = rw (le-ltb n ceiling h)

-- one digit more of a word, and the end of it
pub size_more : (start : ℕ) (xs : List ℕ) (i n m : ℕ) → i < length xs → size_from start xs ≡ size_from n (drop i xs)
    → m ≡ with_digit n (get_or xs i 0) → size_from start xs ≡ size_from m (drop (i + 1) xs)
unfolding size_from
size_more start xs i n m h e p = rw (p, add-one i) (e ∙ rw (drop-cons xs i 0 h))

pub size_end : (start : ℕ) (xs : List ℕ) (i n : ℕ) → i ≡ length xs → size_from start xs ≡ size_from n (drop i xs) → n ≡ size_from start xs
unfolding size_from
size_end start xs i n h e = sym (e ∙ rw (h, drop-length xs))
