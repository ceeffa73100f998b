-- Questions 7 and 8 of a square, and the lists over which the walk down its years is made: v the columns, d the diagonals, t the totals T. Assumes nothing.
use Rattle.std.specs.Prelude.{ℕ, ◌≤◌, ◌<◌, ◌≡◌, List, [], ◌∷◌, ℤ, pos, nat_abs, get_or}
use Rattle.rules.specs.Questions.{first_no}
use Rattle.rules.specs.Separation.{billion, totals_pass, rests_pass}
use Rattle.totals.specs.Summed.{Summed}
use Rattle.corners.specs.Corners.{TotalsOf, CornersOf}

-- the first n numbers of v are the sizes of those of z
abbrev pub SizesOf : ℕ → List ℤ → List ℕ → Type 0
SizesOf n z v = (i : ℕ) → i < n → get_or v i 0 ≡ nat_abs (get_or z i (pos 0))

-- what the walk asks of the totals up to year h
pub record Ready (v d t : List ℕ) (h : ℕ) : Type 0 where
  pub rest : (i : ℕ) → 1 ≤ i → i ≤ h → get_or v i 0 < get_or t i 0
  pub corner : (i : ℕ) → i ≤ h → get_or t i 0 ≤ billion
  pub diagonal : (i : ℕ) → i ≤ h → get_or d i 0 ≤ billion

-- the number of the first of questions 7 and 8 of s that says no, or 0
unfoldable pub totals_answer : List (List ℤ) → ℕ → ℕ
totals_answer s k = first_no ((7, totals_pass s k) ∷ (8, rests_pass s k) ∷ [])

-- b is that number of every square whose totals these are; where it is 0, v, d and t are the sizes of its totals and its totals T, and the walk can be made over them
pub record TotalsAnswered (k : ℕ) (columns diagonals : List ℤ) (v d t : List ℕ) (b : ℕ) : Type 0 where
  pub number : (s : List (List ℤ)) → Summed s k columns diagonals → b ≡ totals_answer s k
  pub sizes : (s : List (List ℤ)) → Summed s k columns diagonals → b ≡ 0 → TotalsOf s k v d
  pub corners : (s : List (List ℤ)) → Summed s k columns diagonals → b ≡ 0 → CornersOf s k t
  pub ready : b ≡ 0 → Ready v d t k
