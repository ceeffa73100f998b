-- The record (document 01, with the last index and the amount of request 3 of document 02): its fields in their order, their widths and ranges, its length,
-- and the value of each field. Assumes nothing.
use Rattle.std.specs.Prelude.{ℕ, zero, suc, ◌+◌, ◌-◌, ◌*◌, ◌/◌, ◌%◌, ◌^◌, Bool, true, false, ◌&&◌, ◌||◌, not, cond, eqb, leb, ℤ, pos, negsuc, neg_ℤ, nat_abs, length, get_or, take, drop, replicate}
use mathlib.Core.List.{List, [], ◌∷◌, ◌++◌, map, zip_with}
use Rattle.rules.specs.Packing.{pack, unpack, number_of, bytes_of}
use Rattle.rules.specs.Lists.{total, padded}
use Rattle.rules.specs.declared.Figures.{Figures as Held}

-- M, one million
abbrev pub million : ℕ
million = 1000000

-- the most of a future index, and of an increment's size, a ULAE total and the amount still to be paid
abbrev pub most_index : ℕ
most_index = 5000000

abbrev pub most_amount : ℕ
most_amount = 10000000000

-- a kind of field: whether a sign bit stands before its size, the size's width in bits, the least and the greatest size
pub record Kind : Type 0 where
  pub signed : Bool
  pub width : ℕ
  pub least : ℕ
  pub most : ℕ

-- k, 4 bits, 1 to 15
abbrev pub last_year : Kind
last_year = record { signed = false; width = 4; least = 1; most = 15 }

-- n_i, 20 bits, 1 to 1,000,000
abbrev pub exposure : Kind
exposure = record { signed = false; width = 20; least = 1; most = million }

-- P_ij, a sign bit and a 34-bit size up to 10^10
abbrev pub increment : Kind
increment = record { signed = true; width = 34; least = 0; most = most_amount }

-- e_t, 23 bits, 1 to 5,000,000
abbrev pub index : Kind
index = record { signed = false; width = 23; least = 1; most = most_index }

-- b_j, 20 bits, 0 to M
abbrev pub reporting : Kind
reporting = record { signed = false; width = 20; least = 0; most = million }

-- w, 20 bits, 0 to M
abbrev pub weight : Kind
weight = record { signed = false; width = 20; least = 0; most = million }

-- U_t, 34 bits, 0 to 10^10
abbrev pub ulae : Kind
ulae = record { signed = false; width = 34; least = 0; most = most_amount }

-- the amount still to be paid for year 0 after year k, 34 bits, 0 to 10^10
abbrev pub tail : Kind
tail = record { signed = false; width = 34; least = 0; most = most_amount }

-- how many bits a field of this kind takes
abbrev pub bits_of : Kind → ℕ
bits_of κ = cond κ.signed (1 + κ.width) κ.width

-- how many cells the triangle of the years 0 to k has, row i those with j from 0 to k − i: a year more adds a row of one cell more
unfoldable pub cells : ℕ → ℕ
cells zero = 1
cells (suc k) = cells k + suc (suc k)

-- the fields in the record's order, a row for each kind: how many, and of which kind
unfoldable pub layout : ℕ → List (ℕ × Kind)
layout k =
    (1, last_year) ∷ (k + 1, exposure) ∷ (cells k, increment) ∷ (k + 1, index) ∷ (k + 1, reporting) ∷ (1, weight) ∷ (k + 1, ulae) ∷ (1, tail) ∷ []

-- how many fields row i of the layout has
abbrev pub count_of : ℕ → ℕ → ℕ
count_of k i = get_or (map (λ r. r.0) (layout k)) i 0

-- the kind of each field of a layout, field by field
unfoldable pub kinds_of : List (ℕ × Kind) → List Kind
kinds_of [] = []
kinds_of (r ∷ rs) = replicate r.0 r.1 ++ kinds_of rs

-- of a list with an entry for each field of a layout, the entries of row i
unfoldable pub section : {A : Type 0} → List (ℕ × Kind) → ℕ → List A → List A
section [] i xs = []
section (r ∷ rs) zero xs = take r.0 xs
section (r ∷ rs) (suc i) xs = section rs i (drop r.0 xs)

-- how many fields the record has, their widths, how many bits they take, how many bytes that is, and how many bits fill the last byte
unfoldable pub field_count : ℕ → ℕ
field_count k = length (kinds_of (layout k))

unfoldable pub widths : ℕ → List ℕ
widths k = map bits_of (kinds_of (layout k))

unfoldable pub bit_count : ℕ → ℕ
bit_count k = total (widths k)

unfoldable pub byte_count : ℕ → ℕ
byte_count k = (bit_count k + 7) / 8

unfoldable pub filling_count : ℕ → ℕ
filling_count k = 8 * byte_count k - bit_count k

-- the most of the bytes and of the fields, those of k = 15
abbrev pub most_bytes : ℕ
most_bytes = 797

abbrev pub most_fields : ℕ
most_fields = 203

-- the signed number with this sign bit, 1 for negative, and this size
abbrev pub signed_of : ℕ → ℕ → ℤ
signed_of zero n = pos n
signed_of (suc b) n = neg_ℤ (pos n)

-- the sign bit of a number: 1 for negative, 0 for zero and above
abbrev pub sign_of : ℤ → ℕ
sign_of (pos n) = 0
sign_of (negsuc n) = 1

-- the value of a field whose bits are the number x, and the number whose bits are those of a field with the value v: its code
unfoldable pub value_of : Kind → ℕ → ℤ
value_of κ x = cond κ.signed (signed_of (x / 2 ^ κ.width) (x % 2 ^ κ.width)) (pos x)

unfoldable pub code_of : Kind → ℤ → ℕ
code_of κ v = cond κ.signed (sign_of v * 2 ^ κ.width + nat_abs v) (nat_abs v)

-- whether a value is in the range of its kind; only a kind with a sign bit has values below zero
unfoldable pub in_range : Kind → ℤ → Bool
in_range κ v = (κ.signed || eqb (sign_of v) 0) && (leb κ.least (nat_abs v) && leb (nat_abs v) κ.most)

-- whether a code is a zero with sign 1
unfoldable pub negative_zero : Kind → ℕ → Bool
negative_zero κ x = κ.signed && eqb x (2 ^ κ.width)

-- whether a code is in range: a zero with sign 1 is not
unfoldable pub bits_in_range : Kind → ℕ → Bool
bits_in_range κ x = in_range κ (value_of κ x) && not (negative_zero κ x)

-- whether every field has an entry that passes the test for its kind; entries past the last field are not asked
unfoldable pub every_field : {A : Type 0} → (Kind → A → Bool) → List Kind → List A → Bool
every_field ok [] xs = true
every_field ok (κ ∷ κs) [] = false
every_field ok (κ ∷ κs) (x ∷ xs) = ok κ x && every_field ok κs xs

-- k, the first four bits of the record s
unfoldable pub last_year_of : List ℕ → ℕ
last_year_of s = get_or s 0 0 / 16

-- the code of each field of the record s, whose length is what k calls for, and the filling bits after the last field as a number
unfoldable pub codes_of : List ℕ → List ℕ
codes_of s = unpack (widths (last_year_of s)) (number_of s / 2 ^ filling_count (last_year_of s))

unfoldable pub filling_of : List ℕ → ℕ
filling_of s = number_of s % 2 ^ filling_count (last_year_of s)

-- the value of each field of the record s, in the record's order
unfoldable pub fields_of : List ℕ → List ℤ
fields_of s = zip_with value_of (kinds_of (layout (last_year_of s))) (codes_of s)

-- the record of the years 0 to k with the fields vs: their bits one after another, and zero bits to the byte end
unfoldable pub record_of : ℕ → List ℤ → List ℕ
record_of k vs = bytes_of (byte_count k) (pack (widths k) (zip_with code_of (kinds_of (layout k)) vs) * 2 ^ filling_count k)

-- the exposures n_0 to n_k, the increments P_ij by row, the indices e_1 to e_{k+1}, the reporting shares b_0 to b_k, the weight w, the ULAE totals U_0 to U_k
-- and the amount still to be paid among the fields vs of a record of the years 0 to k
unfoldable pub exposures_in : ℕ → List ℤ → List ℕ
exposures_in k vs = map nat_abs (section (layout k) 1 vs)

unfoldable pub increments_in : ℕ → List ℤ → List ℤ
increments_in k vs = section (layout k) 2 vs

unfoldable pub indices_in : ℕ → List ℤ → List ℕ
indices_in k vs = map nat_abs (section (layout k) 3 vs)

unfoldable pub reporting_in : ℕ → List ℤ → List ℕ
reporting_in k vs = map nat_abs (section (layout k) 4 vs)

unfoldable pub weight_in : ℕ → List ℤ → ℕ
weight_in k vs = get_or (map nat_abs (section (layout k) 5 vs)) 0 0

unfoldable pub ulae_in : ℕ → List ℤ → List ℕ
ulae_in k vs = map nat_abs (section (layout k) 6 vs)

unfoldable pub tail_in : ℕ → List ℤ → ℕ
tail_in k vs = get_or (map nat_abs (section (layout k) 7 vs)) 0 0

-- figures: k, lists, the increments by row, the weight and the amount still to be paid, as the code holds them. A writer is given lists of any lengths; those of a
-- record stand in arrays (`figures_of`)
abbrev pub Figures : Type 0
Figures = Held

abbrev pub figures : ℕ → List ℕ → List ℤ → List ℕ → List ℕ → ℕ → List ℕ → ℕ → Figures
figures k n p e b w u a = record { k = k; exposures = n; increments = p; indices = e; reporting = b; weight = w; ulae = u; tail = a }

-- the figures of the record s, each list in an array of sixteen or, for the increments, of 136, zero past its end; e_t is at place t − 1
unfoldable pub figures_of : List ℕ → Figures
figures_of s =
    let k = last_year_of s in
    let vs = fields_of s in
    figures k (padded 16 0 (exposures_in k vs)) (padded 136 (pos 0) (increments_in k vs)) (padded 16 0 (indices_in k vs)) (padded 16 0 (reporting_in k vs)) (weight_in k vs) (padded 16 0 (ulae_in k vs)) (tail_in k vs)
