-- The bits of a layout's fields, row by row: read from a number, read from a record, and packed. Assumes nothing.
use Prim.Native.Nat.{ℕ, zero, suc, ◌+◌, ◌*◌, ◌/◌, ◌^◌}
use native.Mathlib.Omega.{arith}
use mathlib.Core.Path.{◌≡◌, refl, sym, ap, ap₂, ◌∙◌}
use mathlib.Core.List.{List, [], ◌∷◌, ◌++◌, map}
use lib.ListN.{length, replicate, length-replicate}
use lib.Pow.{shr-shr, pow-add}
use Rattle.rules.specs.Packing.{pack, unpack, number_of}
use Rattle.rules.specs.Lists.{total}
use Rattle.rules.specs.Record.{Kind, bits_of, kinds_of}
use Rattle.packing.specs.Field.{row_at}
use Rattle.packing.proofs.Pack.{unpack_append, pack_append, row_fields_are, length_row}
use Rattle.layout.proofs.LayoutSections.{join, Shaped}
use Rattle.layout.proofs.RecordSizes.{bits_of_row}

-- the widths of the fields of a layout
abbrev pub widths_of : List (ℕ × Kind) → List ℕ
widths_of rs = map bits_of (kinds_of rs)

map_row : (n : ℕ) (κ : Kind) (κs : List Kind) → map bits_of (replicate n κ ++ κs) ≡ replicate n (bits_of κ) ++ map bits_of κs
map_row zero κ κs = refl
map_row (suc n) κ κs = ap (λ (l : List ℕ). bits_of κ ∷ l) (map_row n κ κs)

-- the widths of a layout are those of its first row, and then those of the others
widths_row : (r : ℕ × Kind) (rs : List (ℕ × Kind)) → widths_of (r ∷ rs) ≡ replicate r.0 (bits_of r.1) ++ widths_of rs
unfolding kinds_of
widths_row r rs = map_row r.0 r.1 (kinds_of rs)

-- how many bits they take
pub total_row : (r : ℕ × Kind) (rs : List (ℕ × Kind)) → total (widths_of (r ∷ rs)) ≡ bits_of r.1 * r.0 + total (widths_of rs)
unfolding kinds_of
total_row r rs = bits_of_row r.0 r.1 (kinds_of rs)

-- the rows of a record from bit place at on
abbrev pub rows_from : List ℕ → ℕ → List (ℕ × Kind) → List (List ℕ)
rows_from s at [] = []
rows_from s at (r ∷ rs) = row_at s at (bits_of r.1) r.0 ∷ rows_from s (at + bits_of r.1 * r.0) rs

pub rows_shaped : (s : List ℕ) (at : ℕ) (rs : List (ℕ × Kind)) → Shaped rs (rows_from s at rs)
rows_shaped s at [] = tt
rows_shaped s at (r ∷ rs) = (length_row s at (bits_of r.1) r.0, rows_shaped s (at + bits_of r.1 * r.0) rs)

-- the fields of a layout whose bits stand from place at on, with `after` bits after them
pub unpack_rows : (s : List ℕ) (rs : List (ℕ × Kind)) (at after : ℕ) → at + total (widths_of rs) + after ≡ 8 * length s
    → unpack (widths_of rs) (number_of s / 2 ^ after) ≡ join (rows_from s at rs)
unfolding unpack kinds_of
unpack_rows s [] at after h = refl
unpack_rows s (r ∷ rs) at after h =
    let w = bits_of r.1 in
    let t = total (widths_of rs) in
    let e : at + (w * r.0 + t) + after ≡ 8 * length s = rw (total_row r rs) at h in
    rw (widths_row r rs, unpack_append (replicate r.0 w) (widths_of rs) (number_of s / 2 ^ after), shr-shr (number_of s) after t)
    (ap₂ (λ (xs ys : List ℕ). xs ++ ys)
    (row_fields_are s at w r.0 (after + t) (omega arith))
    (unpack_rows s rs (at + w * r.0) after (omega arith)))

-- a number with the rows packed after it, one row after another
abbrev pub pack_rows : ℕ → List (ℕ × Kind) → List (List ℕ) → ℕ
pack_rows n [] xss = n
pack_rows n (r ∷ rs) [] = n
pack_rows n (r ∷ rs) (xs ∷ xss) = pack_rows (n * 2 ^ (bits_of r.1 * r.0) + pack (replicate r.0 (bits_of r.1)) xs) rs xss

shift : (n a b x y : ℕ) → (n * a + x) * b + y ≡ n * (a * b) + (x * b + y)
shift n a b x y = omega arith

pub pack_rows_lem : (n : ℕ) (rs : List (ℕ × Kind)) (xss : List (List ℕ)) → Shaped rs xss
    → pack_rows n rs xss ≡ n * 2 ^ total (widths_of rs) + pack (widths_of rs) (join xss)
unfolding pack kinds_of total
pack_rows_lem n [] [] h = omega arith
pack_rows_lem n [] (xs ∷ xss) h = absurd h
pack_rows_lem n (r ∷ rs) [] h = absurd h
pack_rows_lem n (r ∷ rs) (xs ∷ xss) h =
    let w = bits_of r.1 in
    let row = replicate r.0 w in
    pack_rows_lem (n * 2 ^ (w * r.0) + pack row xs) rs xss h.1
    ∙ rw (
      total_row r rs,
      pow-add 2 (w * r.0) (total (widths_of rs)),
      widths_row r rs,
      pack_append row (widths_of rs) xs (join xss) (h.0 ∙ sym (length-replicate r.0 w)),
    )
    (shift n (2 ^ (w * r.0)) (2 ^ total (widths_of rs)) (pack row xs) (pack (widths_of rs) (join xss)))
