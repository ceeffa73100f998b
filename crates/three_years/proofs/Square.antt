-- The case's averages are within the limit of a square's cells. Assumes nothing.
use mathlib.Core.Path.{◌≡◌, refl}
use mathlib.Core.Bool.{Bool, true}
use mathlib.Core.List.{List, [], ◌∷◌}
use Prim.Native.Nat.{ℕ, zero, suc}
use borrow.Author.Tests.{leb-true}
use lib.Dec.{leb}
use lib.IntN.{ℤ, pos, nat_abs}
use lib.ListN.{get_or, replicate}
use Rattle.rules.specs.Lists.{every}
use Rattle.rules.specs.Triangle.{cell_of}
use Rattle.totals.specs.CellSizes.{most_average, Cells}
use Rattle.laws.proofs.Lists.{both_left, both_right}

-- a row that begins with these three cells, and the square
abbrev pub row_of : ℤ → ℤ → ℤ → List ℤ
row_of a b c = a ∷ b ∷ c ∷ replicate 13 (pos 0)

abbrev pub square : List (List ℤ)
square = row_of (pos 0) (pos 5000) (pos 999999) ∷ row_of (pos 0) (pos 0) (pos 0) ∷ row_of (pos 1) (pos 0) (pos 0) ∷ replicate 13 (replicate 16 (pos 0))

-- what a test says of every entry and of what stands past them, it says at every place
at_all : {A : Type 0} (p : A → Bool) (l : List A) (d : A) → every p l ≡ true → p d ≡ true → (i : ℕ) → p (get_or l i d) ≡ true
unfolding every
at_all p [] d e z i = z
at_all p (x ∷ l) d e z zero = both_left (p x) (every p l) e
at_all p (x ∷ l) d e z (suc i) = at_all p l d (both_right (p x) (every p l) e) z i

abbrev small : ℤ → Bool
small z = leb (nat_abs z) most_average

pub cells : Cells square
unfolding cell_of every
cells i j = leb-true _ _ (at_all small (get_or square i []) (pos 0) (at_all (every small) square [] refl refl i) refl j)
