-- Text as bytes: words in ASCII, numbers in decimal, and what it is to put text into a lent buffer. Assumes nothing.
use Rattle.std.specs.Prelude.{ℕ, zero, suc, ◌+◌, ◌-◌, ◌/◌, ◌%◌, min, ◌≡◌, cond, List, [], ◌∷◌, ◌++◌, ltb, ℤ, pos, negsuc, nat_abs, length, replicate}
use Prim.Native.Char.{code}
use Prim.Native.String.{String, [] as nothing, ◌∷◌ as ◌then◌}
use Rattle.std.proofs.lemmas.List.Edits.{sets}

-- the bytes of words in ASCII
abbrev pub ascii : String → List ℕ
ascii nothing = []
ascii (c then cs) = code c ∷ ascii cs

-- the byte of a digit below 10
abbrev pub digit : ℕ → ℕ
digit d = 48 + d

-- the last m digits of n, the most significant first
unfoldable pub last_digits_of : ℕ → ℕ → List ℕ
last_digits_of zero n = []
last_digits_of (suc m) n = last_digits_of m (n / 10) ++ (digit (n % 10) ∷ [])

-- n in decimal with no zero in front, where m digits are enough for it
unfoldable pub decimal_in : ℕ → ℕ → List ℕ
decimal_in zero n = []
decimal_in (suc m) n = cond (ltb n 10) (digit n ∷ []) (decimal_in m (n / 10) ++ (digit (n % 10) ∷ []))

-- n in decimal: a number of 64 bits has at most 20 digits
unfoldable pub decimal : ℕ → List ℕ
decimal n = decimal_in 20 n

-- a minus sign in front of a number below zero
unfoldable pub sign : ℤ → List ℕ
sign (pos n) = []
sign (negsuc n) = ascii "-"

-- a whole number in decimal
unfoldable pub integer : ℤ → List ℕ
integer z = sign z ++ decimal (nat_abs z)

-- n without its last d digits
unfoldable pub without : ℕ → ℕ → ℕ
without zero n = n
without (suc d) n = without d (n / 10)

-- a number that counts units of 10^-d, with d decimals; no point where d is 0
unfoldable pub fixed : ℕ → ℤ → List ℕ
fixed zero z = integer z
fixed (suc d) z = sign z ++ (decimal (without (suc d) (nat_abs z)) ++ (ascii "." ++ last_digits_of (suc d) (nat_abs z)))

-- n spaces
unfoldable pub spaces : ℕ → List ℕ
spaces n = replicate n 32

-- text at the right of a column of w places, and whole where it is longer
unfoldable pub right : ℕ → List ℕ → List ℕ
right w xs = spaces (w - length xs) ++ xs

-- the text xs was put into a buffer from place `at` on, as far as the buffer goes, and ends before place `end`
pub record Put (before after : List ℕ) (at end : ℕ) (xs : List ℕ) : Type 0 where
  pub stored : after ≡ sets before at xs
  pub ended : end ≡ at + min (length xs) (length before - at)
