-- The cells up to the last that is not blank: none, one more, and at most all. Assumes nothing.
use mathlib.Core.Path.{◌≡◌, refl}
use mathlib.Core.Bool.{Bool, true, false, cond}
use mathlib.Core.List.{List}
use Prim.Native.Nat.{ℕ, zero, suc, ◌+◌, ◌≤◌}
use native.Mathlib.Numerals.{add-one}
use native.Mathlib.Omega.{arith}
use lib.Dec.{eqb}
use lib.ListN.{get_or}
use Rattle.text_cells.specs.Cells.{filled}

-- no cells, and one more
pub filled_none : (styles : List ℕ) (p : ℕ) → 0 ≡ filled styles p 0
unfolding filled
filled_none styles p = refl

pub filled_more : (styles : List ℕ) (p n : ℕ) → cond (eqb (get_or styles (p + n) 0) 0) (filled styles p n) (n + 1) ≡ filled styles p (n + 1)
unfolding filled
filled_more styles p n = rw (add-one n)

pub filled_most : (styles : List ℕ) (p n : ℕ) → filled styles p n ≤ n
unfolding filled
filled_most styles p zero = omega arith
filled_most styles p (suc n) = go (eqb (get_or styles (p + n) 0) 0) (filled_most styles p n)
  where
    go : (b : Bool) → filled styles p n ≤ n → cond b (filled styles p n) (suc n) ≤ suc n
    go true h = omega (arith, h)
    go false h = omega arith
