-- Bit-packed, most significant bit first (document 01, "The record"): fields one after another are one row of bits, which is a number. Assumes nothing.
use Rattle.std.specs.Prelude.{ℕ, ◌+◌, ◌*◌, ◌/◌, ◌%◌, ◌^◌, ◌<◌, List, [], ◌∷◌, length, get_or, replicate}
use Rattle.rules.specs.Lists.{total}

-- the number whose bits are those of the fields xs, one after another, ws their widths: each field has at most its width of bits, and there is a
-- field for each width
unfoldable pub pack : List ℕ → List ℕ → ℕ
pack [] xs = 0
pack (w ∷ ws) [] = 0
pack (w ∷ ws) (x ∷ xs) = x * 2 ^ total ws + pack ws xs

-- the fields of the widths ws in the bits of n: of each, the bits after it are dropped and its own are kept
unfoldable pub unpack : List ℕ → ℕ → List ℕ
unpack [] n = []
unpack (w ∷ ws) n = ((n / 2 ^ total ws) % 2 ^ w) ∷ unpack ws n

-- the number whose bits are those of the bytes s
unfoldable pub number_of : List ℕ → ℕ
number_of s = pack (replicate (length s) 8) s

-- m bytes, whose bits are the last 8 × m bits of the number n
unfoldable pub bytes_of : ℕ → ℕ → List ℕ
bytes_of m n = unpack (replicate m 8) n

-- each of the numbers xs has at most w bits; of bytes, w is 8
abbrev pub Fit : ℕ → List ℕ → Type 0
Fit w xs = (i : ℕ) → get_or xs i 0 < 2 ^ w
