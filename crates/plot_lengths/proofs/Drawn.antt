-- How long the parts of a plot are at most. Assumes nothing.
use mathlib.Core.Bool.{Bool, true, false, cond}
use mathlib.Core.List.{List, [], ◌++◌}
use Prim.Native.Nat.{ℕ, zero, suc, ◌+◌, ◌-◌, ◌*◌, ◌/◌, ◌^◌, ◌≤◌, ◌<◌}
use native.Mathlib.Decide.{dec_lt}
use native.Mathlib.Nat.{pow-suc, div-le_of_le-mul, mul-le-mul, mul-le-mul_left}
use native.Mathlib.Omega.{arith}
use lib.Dec.{ltb}
use lib.IntN.{ℤ, pos, nat_abs}
use lib.ListN.{length, length-append}
use Rattle.rules.specs.Lists.{up_to, joined}
use Rattle.laws.proofs.Joined.{joined_more}
use Rattle.composing.specs.Text.{ascii, decimal}
use Rattle.composing.proofs.Decimals.{length_digit, length_digits}
use Rattle.numerals.specs.Numerals.{spaced}
use Rattle.numerals.proofs.Lengths.{spaced_most}
use Rattle.axis.specs.declared.Scale.{Scale}
use Rattle.axis.specs.Axis.{side_of, zero_line, foot_line, height_of, Sound}
use Rattle.axis.proofs.Axis.{foot_most}
use Rattle.shapes.specs.Shapes.{numbered, tick_line, shape, told, slot_label}
use Rattle.drawing.specs.Drawing.{tick_number, tick_at, ticks, bar}

-- texts, each at most so long, one after another
pub joined_most : (f : ℕ → List ℕ) (b n : ℕ) → ((i : ℕ) → i < n → length (f i) ≤ b) → length (joined (up_to f n)) ≤ b * n
unfolding up_to joined
joined_most f b zero h = omega arith
joined_most f b (suc n) h =
    rw (joined_more f n)
    (omega (arith, length-append (joined (up_to f n)) (f n), joined_most f b n (λ i l. h i (omega arith)), h n (omega arith)))

-- a number below 10^m has at most m digits
pub digits_most : (m n : ℕ) → n < 2 ^ 64 → n < 10 ^ suc m → length (decimal n) ≤ suc m
digits_most zero n f h = omega (arith, length_digit n (omega arith))
digits_most (suc m) n f h = go (digits_most m (n / 10) (omega arith) (omega (arith, pow-suc 10 (suc m)))) (dec_lt n 10)
  where
    go : length (decimal (n / 10)) ≤ suc m → Dec (n < 10) → length (decimal n) ≤ suc (suc m)
    go before (yes l) = omega (arith, length_digit n l)
    go before (no l) = omega (arith, length_digits n f (omega arith), before)

-- words and a number below 10^2, 10^3, 10^4 and 10^6
pub numbered_most : (words : List ℕ) (n m : ℕ) → length (decimal n) ≤ m → length (numbered words n) ≤ length words + m
unfolding numbered
numbered_most words n m h = omega (arith, length-append words (decimal n))

pub two : (n : ℕ) → n < 100 → length (decimal n) ≤ 2
two n h = digits_most 1 n (omega arith) h

pub three : (n : ℕ) → n < 1000 → length (decimal n) ≤ 3
three n h = digits_most 2 n (omega arith) h

pub four : (n : ℕ) → n < 10000 → length (decimal n) ≤ 4
four n h = digits_most 3 n (omega arith) h

pub six : (n : ℕ) → n < 1000000 → length (decimal n) ≤ 6
six n h = digits_most 5 n (omega arith) h

-- a bar's shape, what it is of, and both
shape_most : (mark x y w height m : ℕ) → length (decimal x) ≤ m → y < 1000 → w < 100 → height < 1000 → length (shape mark x y w height) ≤ 53 + m
unfolding shape
shape_most mark x y w height m hx hy hw hh =
    let a = numbered (ascii "\" x=\"") x in
    let b = numbered (ascii "\" y=\"") y in
    let c = numbered (ascii "\" width=\"") w in
    let d = numbered (ascii "\" height=\"") height in
    let e = ascii "\">" in
    omega
    (arith, length-append a (b ++ (c ++ (d ++ e))), length-append b (c ++ (d ++ e)), length-append c (d ++ e), length-append d e, numbered_most (ascii "\" x=\"") x m hx, numbered_most (ascii "\" y=\"") y 3 (three y hy), numbered_most (ascii "\" width=\"") w 2 (two w hw), numbered_most (ascii "\" height=\"") height 3 (three height hh))

told_most : (label d : ℕ) (z : ℤ) → label < 1000000 → length (told label d z) ≤ 61 + d
unfolding told
told_most label d z h =
    let a = numbered (ascii "<title>") label in
    let e = ascii "</title></rect>\n" in
    omega
    (arith, length-append a (ascii ": " ++ (spaced d z ++ e)), length-append (spaced d z) e, numbered_most (ascii "<title>") label 6 (six label h), spaced_most d z)

-- its top is above the lowest line, and its height is that of five ticks at most
pub top_most : (s : Scale) → Sound s → zero_line s ≤ 204
unfolding zero_line
top_most s h = omega (arith, h.high, mul-le-mul_left {m = s.up} {n = s.up + s.down} s.tick (omega arith))

height_few : (s : Scale) (size : ℕ) → Sound s → size ≤ 5 * s.step → height_of s size ≤ 900
unfolding height_of
height_few s size h l = div-le_of_le-mul s.step (omega (arith, mul-le-mul {n₂ = 180} {m₂ = 5 * s.step} h.tick_most l))

pub bar_most : (s : Scale) (mark x w label d m : ℕ) (z : ℤ) → Sound s → length (decimal x) ≤ m → w < 100 → label < 1000000 → nat_abs z ≤ 5 * s.step
    → length (bar s mark x w label d z) ≤ 114 + m + d
unfolding bar
bar_most s mark x w label d m z h hx hw hl hz =
    let y = zero_line s - height_of s (side_of false z) in
    let height = height_of s (nat_abs z) in
    omega
    (arith, length-append (shape mark x y w height) (told label d z), shape_most mark x y w height m hx (omega (arith, top_most s h)) hw (omega (arith, height_few s (nat_abs z) h hz)), told_most label d z hl)

pub label_most_lem : (x y label : ℕ) → x < 10000 → y < 1000 → label < 1000000 → length (slot_label x y label) ≤ 47
unfolding slot_label
label_most_lem x y label hx hy hl =
    let a = numbered (ascii "<text class=\"m\" x=\"") x in
    let b = numbered (ascii "\" y=\"") y in
    let c = numbered (ascii "\">") label in
    let e = ascii "</text>\n" in
    omega
    (arith, length-append a (b ++ (c ++ e)), length-append b (c ++ e), length-append c e, numbered_most (ascii "<text class=\"m\" x=\"") x 4 (four x hx), numbered_most (ascii "\" y=\"") y 3 (three y hy), numbered_most (ascii "\">") label 6 (six label hl))

-- a tick, and all of them
line_most : (wide y : ℕ) → wide < 10000 → y ≤ 204 → length (tick_line wide y) ≤ 45
unfolding tick_line
line_most wide y hw hy =
    let a = numbered (ascii "<path d=\"M50 ") y in
    let b = numbered (ascii "H") wide in
    let c = numbered (ascii "\"/><text x=\"46\" y=\"") (y + 4) in
    omega
    (arith, length-append a (b ++ c), length-append b c, numbered_most (ascii "<path d=\"M50 ") y 3 (three y (omega arith)), numbered_most (ascii "H") wide 4 (four wide hw), numbered_most (ascii "\"/><text x=\"46\" y=\"") (y + 4) 3 (three (y + 4) (omega arith)))

sign_most : (t : Bool) → length (cond t (ascii "-") []) ≤ 1
sign_most true = omega arith
sign_most false = omega arith

number_most : (down t q : ℕ) → length (tick_number down t q) ≤ 31
unfolding tick_number
number_most down t q =
    let z = pos ((t - down + (down - t)) * q) in
    omega (arith, length-append (cond (ltb t down) (ascii "-") []) (spaced 0 z), sign_most (ltb t down), spaced_most 0 z)

tick_most : (s : Scale) (wide q t : ℕ) → Sound s → wide < 10000 → length (tick_at s wide q t) ≤ 86
unfolding tick_at
tick_most s wide q t h hw =
    let y = foot_line s - s.tick * t in
    let e = ascii "</text>\n" in
    omega
    (arith, length-append (tick_line wide y) (ascii "\">" ++ (tick_number s.down t q ++ e)), length-append (tick_number s.down t q) e, line_most wide y hw (omega (arith, foot_most s h)), number_most s.down t q)

pub ticks_most : (s : Scale) (wide q : ℕ) → Sound s → wide < 10000 → length (ticks s wide q) ≤ 946
unfolding ticks
ticks_most s wide q h hw =
    omega (arith, joined_most (tick_at s wide q) 86 (s.up + s.down + 1) (λ t l. tick_most s wide q t h hw), h.up_most, h.down_most)
