-- A record as one number: bytes made of fields of any widths, of which the first is k, give them back; so does the record of some values, and the fields of a
-- record make it again. Assumes nothing.
use Prim.Native.Nat.{ℕ, suc, ◌+◌, ◌-◌, ◌*◌, ◌/◌, ◌%◌, ◌^◌, ◌<◌}
use native.Mathlib.Nat.{mod-eq_of_lt, mul-mod_left}
use native.Mathlib.Omega.{arith}
use mathlib.Core.Path.{◌≡◌, refl, sym, ap, subst, ◌∙◌}
use mathlib.Core.Bool.{true}
use mathlib.Core.List.{List, [], ◌∷◌, zip_with}
use lib.IntN.{ℤ, pos, nat_abs}
use lib.ListN.{length, get_or, drop}
use lib.Pow.{high, shr-shr, shl-shr, shl_lt, shr_mod, split}
use Rattle.rules.specs.Packing.{pack, unpack, number_of, bytes_of, Fit}
use Rattle.rules.specs.Lists.{total}
use Rattle.rules.specs.Record.{Kind, last_year, layout, kinds_of, field_count, widths, bit_count, byte_count, filling_count, value_of, code_of, bits_in_range, every_field, last_year_of, codes_of, filling_of, fields_of, record_of}
use Rattle.packing.proofs.Pack.{Fits, pack_lt, unpack_pack, pack_unpack, unpack_fits, number_append, number_lt, bytes_number, number_bytes, length_bytes, bytes_small}
use Rattle.layout.proofs.RecordSizes.{bytes_room, years_lt}
use Rattle.record.proofs.Fields.{RecordFields, fields_coded, all_valued}

-- the first byte is the bits before those of the others
first_byte : (x : ℕ) (s : List ℕ) → Fit 8 (x ∷ s) → number_of (x ∷ s) / 2 ^ (8 * length s) ≡ x
unfolding number_of pack total
first_byte x s h =
    let e : number_of (x ∷ s) ≡ x * 2 ^ (8 * length s) + number_of s = number_append (x ∷ []) s ∙ omega arith in
    rw e (high x (8 * length s) (number_lt s (λ i. h (suc i))))

-- the first four bits are k
years_bits : (s : List ℕ) (after : ℕ) → Fit 8 s → 8 * length s ≡ 4 + after → number_of s / 2 ^ after ≡ last_year_of s
unfolding last_year_of
years_bits [] after h e = absurd (omega arith)
years_bits (x ∷ s) after h e =
    let a : after ≡ 8 * length s + 4 = omega arith in
    rw (a, ← shr-shr (number_of (x ∷ s)) (8 * length s) 4, first_byte x s h)

-- the bytes that fields of the widths ws take, the bits that fill the last of them, and the bytes with the fields xs and zero bits after them
abbrev pub bytes_for : List ℕ → ℕ
bytes_for ws = (total ws + 7) / 8

abbrev pub filling_for : List ℕ → ℕ
filling_for ws = 8 * bytes_for ws - total ws

abbrev pub bytes_with : List ℕ → List ℕ → List ℕ
bytes_with ws xs = bytes_of (bytes_for ws) (pack ws xs * 2 ^ filling_for ws)

-- the first of some fields packed
pack_first : {w : ℕ} {ws xs : List ℕ} → Fits (w ∷ ws) xs → pack (w ∷ ws) xs / 2 ^ total ws ≡ get_or xs 0 0
unfolding pack
pack_first (Fits.more {w} {x} {ws} {xs} l f) = high x (total ws) (pack_lt f)

-- fields of which the first, k, takes 4 bits and the others the widths ws
module _ (ws : List ℕ) where
  -- what stands before the others is k
  years_at_lem : (s : List ℕ) → Fit 8 s → length s ≡ bytes_for (4 ∷ ws) → number_of s / 2 ^ filling_for (4 ∷ ws) / 2 ^ total ws ≡ last_year_of s
  unfolding total
  years_at_lem s h e =
      let f = filling_for (4 ∷ ws) in
      rw (shr-shr (number_of s) f (total ws)) (years_bits s (f + total ws) h (omega arith))

  -- the first field of some bytes is k
  pub years_first : (s : List ℕ) → Fit 8 s → length s ≡ bytes_for (4 ∷ ws) → get_or (unpack (4 ∷ ws) (number_of s / 2 ^ filling_for (4 ∷ ws))) 0 0 ≡ last_year_of s
  unfolding unpack
  years_first s h e = rw (years_at_lem s h e) (mod-eq_of_lt {n = last_year_of s} {m = 16} (years_lt s h))

  -- what holds of the bytes s with the fields xs
  pub record Holds (xs s : List ℕ) : Type 0 where
    pub small : Fit 8 s
    pub size : length s ≡ bytes_for (4 ∷ ws)
    pub years : last_year_of s ≡ get_or xs 0 0
    pub filled : number_of s % 2 ^ filling_for (4 ∷ ws) ≡ 0
    pub codes : unpack (4 ∷ ws) (number_of s / 2 ^ filling_for (4 ∷ ws)) ≡ xs

  module _ {xs : List ℕ} (fits : Fits (4 ∷ ws) xs) where
    abbrev s : List ℕ
    s = bytes_with (4 ∷ ws) xs

    abbrev n : ℕ
    n = pack (4 ∷ ws) xs

    abbrev f : ℕ
    f = filling_for (4 ∷ ws)

    -- as a number: the fields, and zero bits after them
    held_number : number_of (bytes_with (4 ∷ ws) xs) ≡ pack (4 ∷ ws) xs * 2 ^ filling_for (4 ∷ ws)
    held_number =
        let room : 8 * bytes_for (4 ∷ ws) ≡ total (4 ∷ ws) + f = omega arith in
        let l : n * 2 ^ f < 2 ^ (8 * bytes_for (4 ∷ ws)) = subst (λ (z : ℕ). n * 2 ^ f < 2 ^ z) (sym room) (shl_lt (total (4 ∷ ws)) f (pack_lt fits)) in
        number_bytes (bytes_for (4 ∷ ws)) (n * 2 ^ f) ∙ mod-eq_of_lt l

    pub bytes_hold : Holds xs (bytes_with (4 ∷ ws) xs)
    bytes_hold =
        let small = bytes_small (bytes_for (4 ∷ ws)) (n * 2 ^ f) in
        let size = length_bytes (bytes_for (4 ∷ ws)) (n * 2 ^ f) in
        let number = held_number in
        record {
          small = small;
          size = size;
          years = sym (years_at_lem s small size) ∙ rw (number, shl-shr n f) (pack_first fits);
          filled = rw number (mul-mod_left n (2 ^ f));
          codes = rw (number, shl-shr n f) (unpack_pack fits);
        }

-- the code of the first of some values, and the value of the first of some codes
first_code : (κs : List Kind) (vs : List ℤ) → get_or (zip_with code_of (last_year ∷ κs) vs) 0 0 ≡ nat_abs (get_or vs 0 (pos 0))
unfolding zip_with code_of
first_code κs [] = refl
first_code κs (v ∷ vs) = refl

first_value : (κs : List Kind) (xs : List ℕ) → get_or (zip_with value_of (last_year ∷ κs) xs) 0 (pos 0) ≡ pos (get_or xs 0 0)
unfolding zip_with value_of
first_value κs [] = refl
first_value κs (x ∷ xs) = refl

-- the first field of a record is k
first_field : (s : List ℕ) → Fit 8 s → length s ≡ byte_count (last_year_of s) → get_or (fields_of s) 0 (pos 0) ≡ pos (last_year_of s)
unfolding fields_of codes_of byte_count filling_count bit_count widths layout kinds_of
first_field s h e =
    let k = last_year_of s in
    first_value (drop 1 (kinds_of (layout k))) (codes_of s) ∙ ap pos (years_first (drop 1 (widths k)) s h e)

-- what holds of the record s that is made of the fields vs: its length, k, the filling, the ranges, and the fields that it gives back
pub record Made (k : ℕ) (vs : List ℤ) (s : List ℕ) : Type 0 where
  pub size : length s ≡ byte_count k
  pub years : last_year_of s ≡ k
  pub filled : filling_of s ≡ 0
  pub ranges : every_field bits_in_range (kinds_of (layout k)) (codes_of s) ≡ true
  pub values : fields_of s ≡ vs

pub record-made : (k : ℕ) (vs : List ℤ) → RecordFields k vs → Made k vs (record_of k vs)
unfolding record_of codes_of filling_of fields_of byte_count filling_count bit_count widths layout kinds_of
record-made k vs f =
    let c = fields_coded k vs f in
    let h = bytes_hold (drop 1 (widths k)) c.fits in
    let years : last_year_of (record_of k vs) ≡ k = h.years ∙ first_code (drop 1 (kinds_of (layout k))) vs ∙ ap nat_abs f.first in
    record {
      size = h.size;
      years = years;
      filled = rw years h.filled;
      ranges = rw (years, h.codes) c.ranges;
      values = rw (years, h.codes) c.back;
    }

-- a number whose last f bits are zero is made again from the fields before them
pack_again : (ws : List ℕ) (n f : ℕ) → n < 2 ^ (total ws + f) → n % 2 ^ f ≡ 0 → pack ws (unpack ws (n / 2 ^ f)) * 2 ^ f ≡ n
pack_again ws n f l z = rw (pack_unpack ws (n / 2 ^ f), shr_mod (total ws) f l) (omega (arith, split n f))

-- the fields of the bytes s, if these have the length of a record, no filling bit set, and every field in its range, are a record's, and make s again
pub record-read : (s : List ℕ) → Fit 8 s → length s ≡ byte_count (last_year_of s) → filling_of s ≡ 0
    → every_field bits_in_range (kinds_of (layout (last_year_of s))) (codes_of s) ≡ true
    → RecordFields (last_year_of s) (fields_of s) × (record_of (last_year_of s) (fields_of s) ≡ s)
unfolding fields_of codes_of filling_of record_of field_count bit_count widths
record-read s h e z ranges =
    let k = last_year_of s in
    let n = number_of s in
    let v = all_valued (kinds_of (layout k)) (codes_of s) (unpack_fits (widths k) (n / 2 ^ filling_count k)) ranges in
    let l : n < 2 ^ (bit_count k + filling_count k) = rw (← (bytes_room k).1.0, ← e) (number_lt s h) in (
      record { size = v.size; first = first_field s h e; ranges = v.ranges },
      rw (v.back, pack_again (widths k) n (filling_count k) l z, ← e) (bytes_number s h),
    )
