-- A field found by its place: two fields side by side, a byte, and a field within a longer one. Assumes nothing.
use mathlib.Core.Path.{◌≡◌, sym, ap, ◌∙◌}
use mathlib.Core.List.{List}
use Prim.Native.Nat.{ℕ, ◌+◌, ◌-◌, ◌*◌, ◌/◌, ◌%◌, ◌^◌, ◌≤◌, ◌<◌}
use native.Mathlib.Nat.{div-one, one-mul, zero-add}
use native.Mathlib.Omega.{arith}
use lib.Dec.{lit<}
use lib.ListN.{length, get_or}
use lib.Pow.{shl_exact, shr-shr, mod-pow-add, mod-mod-pow, field}
use Rattle.rules.specs.Packing.{number_of, bytes_of, Fit}
use Rattle.packing.specs.Field.{field_at, row_at}
use Rattle.laws.proofs.Lists.{get_d_up_to}
use Rattle.packing.proofs.Pack.{bytes_number, row_fields_are}

-- `1 << n` of the code
pub one_shl : (n : ℕ) → n < 64 → 1 * 2 ^ n % 2 ^ 64 ≡ 2 ^ n
one_shl n h = shl_exact {a = 1} 1 n 64 (lit< tt) (omega arith) ∙ one-mul (2 ^ n)

-- a field of i + n bits is one of i bits and then one of n
pub field_append : (s : List ℕ) (at i n : ℕ) → at + i + n ≤ 8 * length s → field_at s at (i + n) ≡ field_at s at i * 2 ^ n + field_at s (at + i) n
unfolding field_at
field_append s at i n h =
    let m : ℕ = 8 * length s - (at + (i + n)) in
    let e : 8 * length s - (at + i) ≡ m + n = omega arith in
    let d : 8 * length s - (at + i + n) ≡ m = omega arith in
    rw (e, d, ← shr-shr (number_of s) m n) (mod-pow-add (number_of s / 2 ^ m) i n)

-- the byte at place i is the field of 8 bits from bit place 8 i on
pub field_byte : (s : List ℕ) (i : ℕ) → Fit 8 s → i < length s → field_at s (8 * i) 8 ≡ get_or s i 0
unfolding row_at bytes_of
field_byte s i b h =
    rw zero-add at (sym (get_d_up_to (λ i. field_at s (0 + 8 * i) 8) (length s) i 0 h)
    ∙ ap (λ (l : List ℕ). get_or l i 0)
    (sym (rw div-one at (row_fields_are s 0 8 (length s) 0 (omega arith))) ∙ bytes_number s b))

-- one byte more
pub byte_more : (s : List ℕ) (i n : ℕ) → Fit 8 s → i + n < length s → field_at s (8 * i) (8 * n + 8) ≡ field_at s (8 * i) (8 * n) * 256 + get_or s (i + n) 0
byte_more s i n b h =
    let e : 8 * i + 8 * n ≡ 8 * (i + n) = omega arith in
    (rw e at (field_append s (8 * i) (8 * n) 8 (omega arith))) ∙ ap (λ (z : ℕ). field_at s (8 * i) (8 * n) * 256 + z) (field_byte s (i + n) b h)

-- a field of w bits within one of n
pub field_within : (s : List ℕ) (a n r w : ℕ) → a + n ≤ 8 * length s → r + w ≤ n → field_at s (a + r) w ≡ field_at s a n / 2 ^ (n - r - w) % 2 ^ w
unfolding field_at
field_within s a n r w h k =
    let m : ℕ = 8 * length s - (a + n) in
    let e : ℕ = n - r - w in
    let d : 8 * length s - (a + r + w) ≡ m + e = omega arith in
    let f : n ≡ r + w + e = omega arith in
    rw (d, ← shr-shr (number_of s) m e)
    (sym (mod-mod-pow (number_of s / 2 ^ m / 2 ^ e) r w)
    ∙ ap (λ (z : ℕ). z % 2 ^ w) (sym (field (number_of s / 2 ^ m) (r + w) e) ∙ ap (λ (z : ℕ). number_of s / 2 ^ m % 2 ^ z / 2 ^ e) (sym f)))
