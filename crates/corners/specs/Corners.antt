-- The sizes of a square's totals in lists: v the columns, d the diagonals, t the totals T. Assumes nothing.
use Rattle.std.specs.Prelude.{ℕ, ◌≤◌, ◌<◌, ◌≡◌, Bool, true, List, ℤ, get_or}
use Rattle.rules.specs.Triangle.{ZeroOutside}
use Rattle.rules.specs.Separation.{column_of, diagonal_of, corner_of, totals_pass, rests_pass}

-- v and d are the columns and diagonals of s, a square of the years 0 to k that passes question 7
pub record TotalsOf (s : List (List ℤ)) (k : ℕ) (v d : List ℕ) : Type 0 where
  pub few : k < 16
  pub outside : ZeroOutside s k
  pub pass : totals_pass s k ≡ true
  pub column : (h : ℕ) → h ≤ k → get_or v h 0 ≡ column_of s h
  pub diagonal : (h : ℕ) → h ≤ k → get_or d h 0 ≡ diagonal_of s h

-- t are its totals T
abbrev pub CornersOf : List (List ℤ) → ℕ → List ℕ → Type 0
CornersOf s k t = (h : ℕ) → h ≤ k → get_or t h 0 ≡ corner_of s h

-- t holds the totals T of every square that v and d are the totals of, where question 8 says yes, and b is what it says
abbrev pub CornersFound : ℕ → List ℕ → List ℕ → List ℕ → Bool → Type 0
CornersFound k v d t b = (s : List (List ℤ)) → TotalsOf s k v d → (b ≡ rests_pass s k) × (b ≡ true → CornersOf s k t)
