-- Bytes in hexadecimal: one byte more, the bytes of a line, and how many digits there are. Assumes nothing.
use mathlib.Core.Path.{◌≡◌, refl, sym, ◌∙◌}
use mathlib.Core.Bool.{Bool, true, false}
use mathlib.Core.List.{List, [], ◌∷◌, ◌++◌, map, map-append}
use Prim.Native.Nat.{ℕ, zero, suc, ◌+◌, ◌-◌, ◌*◌, ◌/◌, ◌≤◌, ◌<◌, min}
use native.Mathlib.Decide.{dec_le}
use native.Mathlib.Numerals.{add-one}
use native.Mathlib.Omega.{arith}
use lib.ListN.{length, get_or, take, drop, length-append, length-take, length-drop}
use lib.Seq.{take-suc, take_all}
use Rattle.rules.specs.Lists.{up_to, joined}
use Rattle.laws.proofs.Joined.{joined_append, joined_more}
use Rattle.composing.specs.Text.{Put}
use Rattle.composing.proofs.Puts.{put_none, put_append, put_same}
use Rattle.hexadecimal.specs.Hexadecimal.{hex_byte, hex_of, hex_line, hex_lines, digits_in}

-- none, and one byte more
pub put_hex_first : (a : List ℕ) (i : ℕ) (bytes : List ℕ) → Put a a i i (hex_of (take 0 bytes))
unfolding hex_of joined
put_hex_first a i bytes = put_none a i

hex_more : (bytes : List ℕ) (n : ℕ) → n < length bytes → hex_of (take (n + 1) bytes) ≡ hex_of (take n bytes) ++ hex_byte (get_or bytes n 0)
unfolding hex_of
hex_more bytes n h =
    rw (add-one n, take-suc bytes n 0 h, map-append hex_byte (take n bytes) (get_or bytes n 0 ∷ []))
    (joined_append (map hex_byte (take n bytes)) (hex_byte (get_or bytes n 0)))

pub put_hex_more : {a b c : List ℕ} {i j k : ℕ} (bytes : List ℕ) (n : ℕ) → n < length bytes → Put a b i j (hex_of (take n bytes))
    → Put b c j k (hex_byte (get_or bytes n 0)) → Put a c i k (hex_of (take (n + 1) bytes))
put_hex_more bytes n h p q = put_same (sym (hex_more bytes n h)) (put_append p q)

-- the bytes from place `from` to the end of the line
pub line_part : (bytes : List ℕ) (from stop : ℕ) → from ≤ length bytes → stop ≡ min (from + 32) (length bytes)
    → take (stop - from) (drop from bytes) ≡ take 32 (drop from bytes)
line_part bytes from stop h e = go (dec_le (from + 32) (length bytes))
  where
    go : Dec (from + 32 ≤ length bytes) → take (stop - from) (drop from bytes) ≡ take 32 (drop from bytes)
    go (yes l) =
        let f : stop - from ≡ 32 = omega arith in
        rw f
    go (no l) =
        take_all (stop - from) (drop from bytes) (omega (arith, length-drop from bytes)) ∙ sym (take_all 32 (drop from bytes) (omega (arith, length-drop from bytes)))

-- two digits a byte
pub hex_length : (bytes : List ℕ) → length (hex_of bytes) ≡ 2 * length bytes
unfolding hex_of joined hex_byte
hex_length [] = refl
hex_length (b ∷ bytes) = omega (arith, hex_length bytes)

-- a line has at most 65
line_most : (bytes : List ℕ) (m : ℕ) → length (hex_line bytes m) ≤ 65
unfolding hex_line
line_most bytes m =
    let part = take 32 (drop (32 * m) bytes) in
    omega (arith, length-append (hex_of part) (10 ∷ []), hex_length part, length-take 32 (drop (32 * m) bytes))

lines_most : (bytes : List ℕ) (n : ℕ) → length (joined (up_to (hex_line bytes) n)) ≤ 65 * n
unfolding up_to joined
lines_most bytes zero = omega arith
lines_most bytes (suc n) =
    rw (joined_more (hex_line bytes) n)
    (omega (arith, length-append (joined (up_to (hex_line bytes) n)) (hex_line bytes n), line_most bytes n, lines_most bytes n))

pub digits_most : (html : Bool) (packed : List ℕ) → length (digits_in html packed) ≤ 3 * length packed + 65
unfolding digits_in hex_lines
digits_most true packed = omega (arith, hex_length packed)
digits_most false packed = omega (arith, lines_most packed ((length packed + 31) / 32))
