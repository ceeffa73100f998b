-- The tables can be shown for any of the settings tried. Assumes nothing.
use mathlib.Core.List.{List}
use Prim.Native.Nat.{ℕ, ◌<◌}
use native.Mathlib.Omega.{arith}
use lib.IntN.{ℤ}
use Rattle.hindsight_cells.specs.Cells.{Shown}
use Rattle.hindsight_page.specs.Page.{Reported}

pub shown_at : (first k n : ℕ) (settings : List ℕ) (list : List ℤ) → Reported first k n settings list → (a : ℕ) → a < n → Shown list settings k n a
shown_at first k n settings list r a h = record {
  known = (r.tried.k_least, r.tried.k_most);
  few = r.tried.settings_most;
  one = omega (arith, r.tried.settings_most);
  indices = r.indices;
  small = r.small;
}
