-- Lists of fields: the values and the bits of a record's fields are each other's inverse. Assumes nothing.
use Prim.Native.Nat.{ℕ, zero, suc}
use native.Mathlib.Nat.{suc-ne-zero, suc_inj}
use mathlib.Core.Path.{◌≡◌, refl, sym, ap, ap₂}
use mathlib.Core.Bool.{true}
use mathlib.Core.List.{List, [], ◌∷◌, ◌++◌, map, zip_with}
use lib.Dec.{lit<}
use lib.IntN.{ℤ, pos}
use lib.ListN.{length, get_or, replicate}
use Rattle.rules.specs.Record.{Kind, bits_of, layout, kinds_of, field_count, value_of, code_of, in_range, bits_in_range, every_field}
use Rattle.packing.proofs.Pack.{Fits}
use Rattle.laws.proofs.Lists.{both_left, both_right}
use Rattle.record.proofs.Field.{Wide, coded, valued}

-- the sizes of each kind fit its width
abbrev pub AllWide : List Kind → Type 0
AllWide [] = Unit {0}
AllWide (κ ∷ κs) = Wide κ × AllWide κs

-- by rows, and for the record's layout
wide_row : (n : ℕ) (κ : Kind) (κs : List Kind) → Wide κ → AllWide κs → AllWide (replicate n κ ++ κs)
wide_row zero κ κs h hs = hs
wide_row (suc n) κ κs h hs = (h, wide_row n κ κs h hs)

spread_wide : (rs : List (ℕ × Kind)) → AllWide (map (λ r. r.1) rs) → AllWide (kinds_of rs)
unfolding kinds_of
spread_wide [] h = tt
spread_wide (r ∷ rs) h = wide_row r.0 r.1 (kinds_of rs) h.0 (spread_wide rs h.1)

layout_wide : (k : ℕ) → AllWide (kinds_of (layout k))
unfolding layout
layout_wide k = spread_wide (layout k) (lit< tt, (lit< tt, (lit< tt, (lit< tt, (lit< tt, (lit< tt, (lit< tt, (lit< tt, tt))))))))

-- the bits of values in range: they fit, the values come back from them, and they are in range
pub record AllCoded (κs : List Kind) (vs : List ℤ) : Type 0 where
  pub fits : Fits (map bits_of κs) (zip_with code_of κs vs)
  pub back : zip_with value_of κs (zip_with code_of κs vs) ≡ vs
  pub ranges : every_field bits_in_range κs (zip_with code_of κs vs) ≡ true

all_coded : (κs : List Kind) (vs : List ℤ) → AllWide κs → length vs ≡ length κs → every_field in_range κs vs ≡ true → AllCoded κs vs
unfolding zip_with every_field
all_coded [] [] w e h = record { fits = Fits.none; back = refl; ranges = refl }
all_coded [] (v ∷ vs) w e h = absurd (suc-ne-zero (length vs) e)
all_coded (κ ∷ κs) [] w e h = absurd (suc-ne-zero (length κs) (sym e))
all_coded (κ ∷ κs) (v ∷ vs) w e h =
    let one = coded κ w.0 v (both_left (in_range κ v) _ h) in
    let rest = all_coded κs vs w.1 (suc_inj e) (both_right (in_range κ v) _ h) in
    record { fits = Fits.more one.fits rest.fits; back = ap₂ {C = List ℤ} ◌∷◌ one.back rest.back; ranges = rw (one.ranges, rest.ranges) }

-- the values of bits in range: the bits come back from them, they are in range, and there are as many
pub record AllValued (κs : List Kind) (xs : List ℕ) : Type 0 where
  pub back : zip_with code_of κs (zip_with value_of κs xs) ≡ xs
  pub ranges : every_field in_range κs (zip_with value_of κs xs) ≡ true
  pub size : length (zip_with value_of κs xs) ≡ length κs

pub all_valued : (κs : List Kind) (xs : List ℕ) → Fits (map bits_of κs) xs → every_field bits_in_range κs xs ≡ true → AllValued κs xs
unfolding zip_with every_field
all_valued [] [] f h = record { back = refl; ranges = refl; size = refl }
all_valued [] (x ∷ xs) f h = elim f [ ]
all_valued (κ ∷ κs) [] f h = elim f [ ]
all_valued (κ ∷ κs) (x ∷ xs) (Fits.more l f) h =
    let one = valued κ x l (both_left (bits_in_range κ x) _ h) in
    let rest = all_valued κs xs f (both_right (bits_in_range κ x) _ h) in
    record { back = ap₂ {C = List ℕ} ◌∷◌ one.back rest.back; ranges = rw (one.ranges, rest.ranges); size = ap suc rest.size }

-- vs are the fields of a record of the years 0 to k: as many as it has, the first is k, and each is in its range
pub record RecordFields (k : ℕ) (vs : List ℤ) : Type 0 where
  pub size : length vs ≡ field_count k
  pub first : get_or vs 0 (pos 0) ≡ pos k
  pub ranges : every_field in_range (kinds_of (layout k)) vs ≡ true

-- their bits
pub fields_coded : (k : ℕ) (vs : List ℤ) → RecordFields k vs → AllCoded (kinds_of (layout k)) vs
unfolding field_count
fields_coded k vs f = all_coded (kinds_of (layout k)) vs (layout_wide k) f.size f.ranges
