-- Where question 13 says no of the increments p of the years 0 to k, and the figures there. Assumes nothing.
use Rattle.std.specs.Prelude.{ℕ, List, ℤ, pos}
use Rattle.rules.specs.Ladder.{developed, base, development_factor}
use Rattle.reasons.specs.Reasons.{first_refused}
use Rattle.finding.specs.Places.{development_year, found}
use Rattle.finding.specs.declared.Finding.{Finding}

-- the first development year of which question 13 says no, with its B, its A and its factor, which is 0 where B is; a and b are the sums A and B of each year
unfoldable pub development_found : (ℕ → ℕ) → (ℕ → ℕ) → ℕ → Finding
development_found a b k =
    let h = first_refused a b k in
    found development_year 0 h (pos (b h)) (pos (a h)) (pos (development_factor (a h) (b h)))

-- 13
unfoldable pub development_finding : ℕ → List ℤ → Finding
development_finding k p = development_found (developed k p) (base k p) k
