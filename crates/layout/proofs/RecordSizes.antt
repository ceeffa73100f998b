-- The sizes of a record by k: its cells, the bit places of its rows, its bits, bytes and fields; and the sum of the first entries of a list. Assumes nothing.
use mathlib.Core.Path.{◌≡◌, refl}
use mathlib.Core.Bool.{true}
use mathlib.Core.List.{List, [], ◌∷◌, ◌++◌, map}
use Prim.Native.Nat.{ℕ, zero, suc, ◌+◌, ◌*◌, ◌^◌, ◌≤◌, ◌<◌}
use native.Mathlib.Nat.{lt_of_le_of_lt, mul-le-mul}
use native.Mathlib.Omega.{arith}
use lib.ListN.{length, take, replicate, length-append, length-replicate}
use Rattle.rules.specs.Lists.{total, every, between}
use Rattle.rules.specs.Record.{Kind, bits_of, cells, layout, kinds_of, widths, bit_count, byte_count, filling_count, field_count, last_year_of}
use Rattle.rules.specs.Packing.{Fit}
use Rattle.layout.specs.Places.{start_of}
use Rattle.laws.proofs.Lists.{at_most}
use Rattle.laws.proofs.TriangleRows.{cells_twice, cells_most}

-- the bits of a row of n fields of one kind and the fields after it
pub bits_of_row : (n : ℕ) (κ : Kind) (κs : List Kind) → total (map bits_of (replicate n κ ++ κs)) ≡ bits_of κ * n + total (map bits_of κs)
unfolding total
bits_of_row zero κ κs = omega arith
bits_of_row (suc n) κ κs = omega (arith, bits_of_row n κ κs)

-- the bits of the fields of a layout, row by row
pub bits_of_rows : (rs : List (ℕ × Kind)) → total (map bits_of (kinds_of rs)) ≡ total (map (λ r. bits_of r.1 * r.0) rs)
unfolding total kinds_of
bits_of_rows [] = refl
bits_of_rows (r ∷ rs) = omega (arith, bits_of_row r.0 r.1 (kinds_of rs), bits_of_rows rs)

-- how many fields a layout has, row by row
pub length_of_rows : (rs : List (ℕ × Kind)) → length (kinds_of rs) ≡ total (map (λ r. r.0) rs)
unfolding total kinds_of
length_of_rows [] = refl
length_of_rows (r ∷ rs) = omega (arith, length-append (replicate r.0 r.1) (kinds_of rs), length-replicate r.0 r.1, length_of_rows rs)

-- the bit place at which each row starts, and where the last one ends
pub record Starts (k : ℕ) : Type 0 where
  pub exposures : start_of k 1 ≡ 4
  pub increments : start_of k 2 ≡ 24 + 20 * k
  pub indices : start_of k 3 ≡ 24 + 20 * k + 35 * cells k
  pub reporting : start_of k 4 ≡ 47 + 43 * k + 35 * cells k
  pub weight : start_of k 5 ≡ 67 + 63 * k + 35 * cells k
  pub ulae : start_of k 6 ≡ 87 + 63 * k + 35 * cells k
  pub tail : start_of k 7 ≡ 121 + 97 * k + 35 * cells k
  pub end : bit_count k ≡ start_of k 7 + 34

pub starts : (k : ℕ) → Starts k
unfolding start_of bit_count widths layout total
starts k = record {
  exposures = bits_of_rows (take 1 (layout k));
  increments = omega (arith, bits_of_rows (take 2 (layout k)));
  indices = omega (arith, bits_of_rows (take 3 (layout k)));
  reporting = omega (arith, bits_of_rows (take 4 (layout k)));
  weight = omega (arith, bits_of_rows (take 5 (layout k)));
  ulae = omega (arith, bits_of_rows (take 6 (layout k)));
  tail = omega (arith, bits_of_rows (take 7 (layout k)));
  end = omega (arith, bits_of_rows (take 7 (layout k)), bits_of_rows (layout k));
}

-- how many fields the record has
pub fields_count : (k : ℕ) → field_count k ≡ cells k + 4 * k + 7
unfolding field_count layout total
fields_count k = omega (arith, length_of_rows (layout k))

-- the bits are at most 6370
pub bits_most : (k : ℕ) → k < 16 → bit_count k ≤ 6370
bits_most k h =
    let s = starts k in
    omega (arith, cells_most k h)

-- the bits and the filling bits, of which there are fewer than 8, are those of the bytes
pub bytes_room : (k : ℕ) → (bit_count k ≤ 8 * byte_count k) × ((8 * byte_count k ≡ bit_count k + filling_count k) × (filling_count k < 8))
unfolding byte_count filling_count
bytes_room k = omega arith

-- a record with k at least 1 has at least 45 bytes
pub bytes_least : (k : ℕ) → 1 ≤ k → 45 ≤ byte_count k
unfolding byte_count
bytes_least k h =
    let m : 2 * 3 ≤ (k + 1) * (k + 2) = mul-le-mul {n₁ = 2} {m₁ = 3} (omega arith) (omega arith) in
    let s = starts k in
    omega (arith, cells_twice k)

-- k of a record is at most 15
pub years_lt : (s : List ℕ) → Fit 8 s → last_year_of s < 16
unfolding last_year_of
years_lt s h = omega (arith, h 0)

-- a number of a list whose range is known has no more bits than the limit
pub fit_between : (least most w : ℕ) → most < 2 ^ w → (xs : List ℕ) → every (between least most) xs ≡ true → Fit w xs
fit_between least most w l xs h i = lt_of_le_of_lt (at_most least most xs h i) l
