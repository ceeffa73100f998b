-- The rows of a record packed into a buffer, one after another, and the record that the buffer then holds. Assumes nothing.
use Prim.Native.Nat.{ℕ, ◌+◌, ◌-◌, ◌*◌, ◌^◌, ◌≤◌, ◌<◌}
use native.Mathlib.Nat.{add-zero, mul-one}
use native.Mathlib.Omega.{arith}
use mathlib.Core.Path.{◌≡◌, refl, sym, ap, ◌∙◌}
use mathlib.Core.List.{List, [], ◌∷◌, zip_with}
use lib.Dec.{lit<}
use lib.ListN.{length, take, replicate}
use lib.Seq.{take-length}
use Rattle.rules.specs.Packing.{pack, number_of, Fit}
use Rattle.rules.specs.Lists.{total}
use Rattle.rules.specs.Record.{Figures, Kind, bits_of, kinds_of, widths, layout, bit_count, byte_count, filling_count, code_of, record_of}
use Rattle.rules.specs.Writing.{given_fields}
use Rattle.packing.specs.declared.Pending.{Pending}
use Rattle.packing.specs.Field.{packed_so, place_of, Packable, PackedOn}
use Rattle.packing.proofs.Pack.{bytes_number}
use Rattle.packing.proofs.Puts.{packed_none, packed_then, ready_then}
use Rattle.layout.proofs.RecordSizes.{bytes_room, bits_most}
use Rattle.layout.proofs.Codes.{widths_of, total_row, pack_rows, pack_rows_lem}
use Rattle.recording.specs.Writable.{Writable}
use Rattle.recording.proofs.RowsGiven.{few_years, given_layout, row_codes, codes_shaped, Lengths, lengths_are, rows_layout, codes_join}

-- nothing is pending
abbrev pub none : Pending
none = record { at = 0; count = 0; bits = 0 }

-- a number of bits with those of the rows after it, one row after another
abbrev pub bits_rows : ℕ → List (ℕ × Kind) → ℕ
bits_rows n [] = n
bits_rows n (r ∷ rs) = bits_rows (n + bits_of r.1 * r.0) rs

bits_rows_lem : (n : ℕ) (rs : List (ℕ × Kind)) → bits_rows n rs ≡ n + total (widths_of rs)
unfolding total kinds_of
bits_rows_lem n [] = omega arith
bits_rows_lem n (r ∷ rs) = omega (arith, bits_rows_lem (n + bits_of r.1 * r.0) rs, total_row r rs)

-- one field is a row
one_field : (w x : ℕ) → pack (replicate 1 w) (x ∷ []) ≡ x
unfolding pack total
one_field w x = omega arith

pub packed_one : {s t : List ℕ} {p q : Pending} {w x : ℕ} → PackedOn s t p q w x → PackedOn s t p q (w * 1) (pack (replicate 1 w) (x ∷ []))
packed_one {w} {x} f = rw (mul-one w, one_field w x) f

-- the first i rows of g are packed into the buffer, which was s
pub record FirstRows (g : Figures) (i : ℕ) (s t : List ℕ) (q : Pending) : Type 0 where
  pub long : length t ≡ length s
  pub packed : PackedOn s t none q (bits_rows 0 (take i (given_layout g))) (pack_rows 0 (take i (given_layout g)) (take i (row_codes g)))

-- where nothing is packed the number is 0
nothing_packed : (s : List ℕ) → packed_so s none ≡ 0
unfolding packed_so number_of pack
nothing_packed s = refl

-- a buffer that is packed to its end holds the number that was packed
whole_number : {s u : List ℕ} {r : Pending} {n x : ℕ} → PackedOn s u none r n x → n ≡ 8 * length u → number_of u ≡ x
unfolding packed_so place_of
whole_number {s} {u} {r} {n} {x} f e =
    let none_left : r.count ≡ 0 = omega (arith, f.place, f.few) in
    let at-end : r.at ≡ length u = omega (arith, f.place, f.few) in
    let no_bits : r.bits < 2 ^ 0 = rw none_left at f.small in
    let p : number_of u * 2 ^ 0 + r.bits ≡ 0 * 2 ^ n + x = rw (none_left, at-end, take-length u, nothing_packed s) at f.packed in
    omega arith

-- what the put of the filling bits asks
pub record Fills (k : ℕ) (t : List ℕ) (q : Pending) : Type 0 where
  pub short : 8 * length t < 2 ^ 64
  pub room : bit_count k ≤ 8 * length t
  pub few : 8 * length t - bit_count k ≤ 56
  pub ready : Packable t q (8 * length t - bit_count k)

module _ (g : Figures) (s : List ℕ) (w : Writable g (length s)) where
  lengths : Lengths g (length s)
  lengths = lengths_are g (length s) w.lengths

  -- all rows have the record's bits
  all_bits : bits_rows 0 (given_layout g) ≡ bit_count g.k
  unfolding bit_count widths
  all_bits =
      let e = ap (λ (rs : List (ℕ × Kind)). total (widths_of rs)) (rows_layout g (length s) lengths) in
      omega (arith, bits_rows_lem 0 (given_layout g))

  -- the buffer has room for all rows
  whole_room : Packable s none (8 * length s)
  unfolding place_of
  whole_room =
      let few = few_years g w.years in
      record { few = lit< tt; small = lit< tt; room = omega arith; short = omega (arith, lengths.buffer, bits_most g.k few, bytes_room g.k) }

  pub no_rows : FirstRows g 0 s s none
  no_rows = record { long = refl; packed = packed_none whole_room }

  -- and after the first rows for v bits more, which are no more than those of the rows left
  pub ready : {t : List ℕ} {q : Pending} (i v : ℕ) → FirstRows g i s t q
      → bits_rows 0 (take i (given_layout g)) + v ≤ bits_rows 0 (given_layout g) → Packable t q v
  ready i v f e = ready_then v whole_room f.packed f.long (omega (arith, all_bits, lengths.buffer, bytes_room g.k))

  -- after all rows it has room for the filling bits
  filling_bits : {t : List ℕ} {q : Pending} → FirstRows g 8 s t q → 8 * length t - bit_count g.k ≡ filling_count g.k
  unfolding filling_count
  filling_bits f = rw (f.long, lengths.buffer)

  pub fills : {t : List ℕ} {q : Pending} → FirstRows g 8 s t q → Fills g.k t q
  fills {t} f =
      let b = bytes_room g.k in
      let e = filling_bits f in
      let l : length t ≡ byte_count g.k = f.long ∙ lengths.buffer in
      let r = ready_then (8 * length t - bit_count g.k) whole_room f.packed f.long (omega (arith, all_bits, f.long)) in
      record { short = omega (arith, r.short); room = omega (arith, b); few = omega (arith, b); ready = r }

  -- the number packed is that of the record's fields
  all_packed : pack_rows 0 (given_layout g) (row_codes g) ≡ pack (widths g.k) (zip_with code_of (kinds_of (layout g.k)) (given_fields g))
  unfolding widths
  all_packed =
      rw (codes_join g (length s) lengths, ← rows_layout g (length s) lengths) (omega (arith, pack_rows_lem 0 (given_layout g) (row_codes g) (codes_shaped g)))

  -- with the filling bits the buffer holds the record
  pub recorded : {t u : List ℕ} {q r : Pending} → FirstRows g 8 s t q → PackedOn t u q r (8 * length t - bit_count g.k) 0 → length u ≡ length t → Fit 8 u
      → u ≡ record_of g.k (given_fields g)
  unfolding record_of
  recorded {t} {u} f h e fit =
      let b : length u ≡ byte_count g.k = omega (arith, f.long, lengths.buffer) in
      let n : number_of u ≡ pack_rows 0 (given_layout g) (row_codes g) * 2 ^ (8 * length t - bit_count g.k) + 0 =
      whole_number (packed_then f.packed h) (omega (arith, all_bits, bytes_room g.k, f.long, lengths.buffer)) in
      sym (bytes_number u fit)
      ∙ rw (b, n, add-zero (pack_rows 0 (given_layout g) (row_codes g) * 2 ^ (8 * length t - bit_count g.k)), filling_bits f, all_packed)
