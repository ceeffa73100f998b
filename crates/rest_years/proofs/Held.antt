-- An entry of the list of T_h as the code holds it: it is far below 2^63. Assumes nothing.
use Prim.Native.Nat.{ℕ}
use native.Mathlib.Omega.{arith}
use mathlib.Core.Path.{◌≡◌}
use mathlib.Core.List.{List}
use lib.IntN.{ℤ, pos}
use lib.ListN.{get_or}
use mir.Facts.{to_z-of_z}
use Rattle.laws.proofs.Signed.{held, size_fits}
use Rattle.rest_years.specs.RestYears.{CornersSmall}

pub entry_held : (t : List ℤ) → CornersSmall t → (h : ℕ) → held (get_or t h (pos 0)) ≡ get_or t h (pos 0)
entry_held t a h = to_z-of_z (size_fits (get_or t h (pos 0)) (omega (arith, a h)))
