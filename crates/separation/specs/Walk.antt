-- The factors of a square's years as the walk down them finds them. Assumes nothing.
use Rattle.std.specs.Prelude.{ℕ, ◌+◌, ◌≤◌, ◌≡◌, List, ℤ, set}
use Rattle.rules.specs.Lists.{up_to, padded}
use Rattle.rules.specs.Separation.{running_of, share_of, level_of}
use Rattle.rules.specs.declared.Factors.{Factors}
use Rattle.corners.specs.Corners.{TotalsOf, CornersOf}

-- factors with the share r and the level l of year h
abbrev pub with_year : Factors → ℕ → ℕ → ℕ → Factors
with_year f h r l = record { shares = set f.shares h r; levels = set f.levels h l; k = f.k }

-- the shares and levels of the years 0 to h, zero past them
unfoldable pub factors_to : List (List ℤ) → ℕ → ℕ → Factors
factors_to s k h = record { shares = padded 16 0 (up_to (share_of s k) (h + 1)); levels = padded 16 0 (up_to (level_of s k) (h + 1)); k = k }

-- f are the factors up to year h of every square that these are the totals of, where a is its running share of year h
abbrev pub FactorsFound : ℕ → List ℕ → List ℕ → List ℕ → ℕ → ℕ → Factors → Type 0
FactorsFound k v d t a h f = (s : List (List ℤ)) → TotalsOf s k v d → CornersOf s k t → h ≤ k → a ≡ running_of s k h → f ≡ factors_to s k h
