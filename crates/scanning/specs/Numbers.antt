-- Numbers of a text. Assumes nothing.
use Rattle.std.specs.Prelude.{ℕ, ◌+◌, ◌-◌, ◌*◌, Bool, false, cond, List, [], ◌∷◌, eqb, ltb, ℤ, pos}
use Rattle.rules.specs.Lists.{every, between}
use Rattle.rules.specs.Record.{signed_of}

-- the bytes of the digits 0 to 9
abbrev pub is_digit : ℕ → Bool
is_digit b = between 48 57 b

-- digits, at least one
unfoldable pub is_natural : List ℕ → Bool
is_natural [] = false
is_natural (b ∷ bs) = every is_digit (b ∷ bs)

-- a whole number: digits, with a minus sign in front where it is below zero
unfoldable pub is_number : List ℕ → Bool
is_number [] = false
is_number (b ∷ bs) = cond (eqb b 45) (is_natural bs) (is_natural (b ∷ bs))

-- 10^17 is above every range; a number that has reached it grows no more
abbrev pub ceiling : ℕ
ceiling = 100_000_000_000_000_000

-- the number so far with one digit more
unfoldable pub with_digit : ℕ → ℕ → ℕ
with_digit n b = cond (ltb n ceiling) (10 * n + (b - 48)) n

-- the number that digits go on to after n
unfoldable pub size_from : ℕ → List ℕ → ℕ
size_from n [] = n
size_from n (b ∷ bs) = size_from (with_digit n b) bs

-- the value of a whole number
unfoldable pub whole_of : List ℕ → ℤ
whole_of [] = pos 0
whole_of (b ∷ bs) = cond (eqb b 45) (signed_of 1 (size_from 0 bs)) (pos (size_from 0 (b ∷ bs)))
