-- Bytes in hexadecimal, small letters: in one line on the HTML page, 64 digits a line on the text page. Assumes nothing.
use Rattle.std.specs.Prelude.{ℕ, ◌+◌, ◌*◌, ◌/◌, ◌%◌, Bool, cond, List, [], ◌∷◌, ◌++◌, map, ltb, length, take, drop}
use Rattle.rules.specs.Lists.{up_to, joined}

-- the digit of a number below 16
unfoldable pub hex_digit : ℕ → ℕ
hex_digit n = cond (ltb n 10) (48 + n) (87 + n)

-- the two digits of a byte
unfoldable pub hex_byte : ℕ → List ℕ
hex_byte b = hex_digit (b / 16) ∷ (hex_digit (b % 16) ∷ [])

-- bytes, one after another
unfoldable pub hex_of : List ℕ → List ℕ
hex_of bytes = joined (map hex_byte bytes)

-- line m of the text page: 32 bytes, or those that are left, and a line feed
unfoldable pub hex_line : List ℕ → ℕ → List ℕ
hex_line bytes m = hex_of (take 32 (drop (32 * m) bytes)) ++ (10 ∷ [])

-- the lines that it takes for all of them
unfoldable pub hex_lines : List ℕ → List ℕ
hex_lines bytes = joined (up_to (hex_line bytes) ((length bytes + 31) / 32))

-- the digits of a record
unfoldable pub digits_in : Bool → List ℕ → List ℕ
digits_in html packed = cond html (hex_of packed) (hex_lines packed)
