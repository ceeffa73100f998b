-- Rows of a triangle that stands in the array by row, and sections that are put by row. Assumes nothing.
use Prim.Native.Nat.{ℕ, ◌+◌, ◌-◌, ◌≤◌}
use native.Mathlib.Numerals.{add-one}
use native.Mathlib.Omega.{arith}
use mathlib.Core.Path.{◌≡◌}
use mathlib.Core.List.{List}
use lib.IntN.{ℤ, nat_abs, pos}
use lib.ListN.{length, get_or}
use lib.Seq.{sets}
use Rattle.rules.specs.Lists.{up_to, joined}
use Rattle.rules.specs.Record.{cells}
use Rattle.rules.specs.Triangle.{row_start}
use Rattle.laws.proofs.Joined.{sets_append, joined_more, past_length}
use Rattle.laws.proofs.TriangleRows.{row_within}
use Rattle.signed_sums.specs.Small.{Sized}

-- a row of figures of at most a size
pub sized_row : (b a k i : ℕ) (xs : List ℤ) → i ≤ k → Sized b a (cells k) xs → Sized b (a + row_start k i) (k + 1 - i) xs
sized_row b a k i xs h small j l =
    let e : a + row_start k i + j ≡ a + (row_start k i + j) = omega arith in
    rw e (small (row_start k i + j) (omega (arith, row_within k i h)))

-- one row more of a triangle that is put by row from a place on
pub row_more : (k : ℕ) (row : ℕ → List ℤ) → ((i : ℕ) → length (row i) ≡ k + 1 - i) → (l : List ℤ) (at i : ℕ)
    → sets (sets l at (joined (up_to row i))) (at + row_start k i) (row i) ≡ sets l at (joined (up_to row (i + 1)))
row_more k row size l at i =
    rw (add-one i, joined_more row i) (sets_append (joined (up_to row i)) (row i) l at (at + row_start k i) (omega (arith, past_length row k size i)))
