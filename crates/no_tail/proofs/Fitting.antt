-- That codes fit the widths of their kinds, as a test of every code; so they fit without the tail where they fit with it, and the other way. Assumes nothing.
use Prim.Native.Nat.{ℕ, ◌^◌, ◌≤◌}
use native.Mathlib.Nat.{suc-ne-zero, suc_inj}
use native.Mathlib.Omega.{arith}
use borrow.Author.Tests.{ltb-true, lt-ltb}
use mathlib.Core.Path.{◌≡◌, refl, sym, ◌∙◌}
use mathlib.Core.Bool.{Bool, true}
use mathlib.Core.List.{List, [], ◌∷◌, map}
use lib.Dec.{ltb}
use lib.ListN.{length}
use Rattle.rules.specs.Record.{Kind, most_index, bits_of, layout, kinds_of, widths, every_field}
use Rattle.packing.proofs.Pack.{Fits}
use Rattle.laws.proofs.Lists.{both_left, both_right}
use Rattle.no_tail.proofs.Document01.{layout01, widths01, SameCodes}
use Rattle.no_tail.proofs.Rows.{Long}
use Rattle.no_tail.proofs.SameValues.{every_same}

-- whether a code has no more bits than its kind
abbrev narrow : Kind → ℕ → Bool
narrow κ x = ltb x (2 ^ bits_of κ)

fits_narrow : (κs : List Kind) {xs : List ℕ} → Fits (map bits_of κs) xs → every_field narrow κs xs ≡ true
unfolding every_field
fits_narrow [] f = refl
fits_narrow (κ ∷ κs) (Fits.more {x} l f) = rw (lt-ltb x (2 ^ bits_of κ) l, fits_narrow κs f)

narrow_fits : (κs : List Kind) (xs : List ℕ) → length xs ≡ length κs → every_field narrow κs xs ≡ true → Fits (map bits_of κs) xs
unfolding every_field
narrow_fits [] [] e h = Fits.none
narrow_fits [] (x ∷ xs) e h = absurd (suc-ne-zero (length xs) e)
narrow_fits (κ ∷ κs) [] e h = absurd (suc-ne-zero (length κs) (sym e))
narrow_fits (κ ∷ κs) (x ∷ xs) e h =
    Fits.more (ltb-true x (2 ^ bits_of κ) (both_left (narrow κ x) _ h)) (narrow_fits κs xs (suc_inj e) (both_right (narrow κ x) _ h))

module _ {k e : ℕ} {xs ys : List ℕ} (c : SameCodes k e xs ys) (most : e ≤ most_index) (long : Long (layout k) xs) (long01 : Long (layout01 k) ys) where
  narrow_same : every_field narrow (kinds_of (layout k)) xs ≡ every_field narrow (kinds_of (layout01 k)) ys
  narrow_same = every_same c long long01 narrow (lt-ltb e (2 ^ 23) (omega arith)) refl

  pub fits_old : Fits (widths k) xs → Fits (widths01 k) ys
  unfolding widths widths01
  fits_old f = narrow_fits (kinds_of (layout01 k)) ys long01 (sym narrow_same ∙ fits_narrow (kinds_of (layout k)) f)

  pub fits_new : Fits (widths01 k) ys → Fits (widths k) xs
  unfolding widths widths01
  fits_new f = narrow_fits (kinds_of (layout k)) xs long (narrow_same ∙ fits_narrow (kinds_of (layout01 k)) f)
