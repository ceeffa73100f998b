-- Where questions 9 and 10 say no of a square q of averages of the years 0 to k, and the figures there. Assumes nothing.
use Rattle.std.specs.Prelude.{ℕ, ◌+◌, List, leb, ℤ, pos}
use Rattle.rules.specs.Separation.{billion, diagonal_of, running_of, level_of}
use Rattle.entries.specs.Leading.{leading}
use Rattle.finding.specs.Places.{development_year, payment_year, found}
use Rattle.finding.specs.declared.Finding.{Finding}

-- the first year whose running share is below 1, k + 1 where there is none
unfoldable pub refused_running : List (List ℤ) → ℕ → ℕ
refused_running q k = leading (λ h. leb 1 (running_of q k h)) (k + 1)

-- 9: that year and its running share
unfoldable pub running_finding : List (List ℤ) → ℕ → Finding
running_finding q k =
    let h = refused_running q k in
    found development_year 0 h (pos (running_of q k h)) (pos 0) (pos 0)

-- the first year whose level is above S, k + 1 where there is none; l are the levels
unfoldable pub refused_level : (ℕ → ℕ) → ℕ → ℕ
refused_level l k = leading (λ h. leb (l h) billion) (k + 1)

-- that year, its diagonal, its running share and its level; d, a and l are these
unfoldable pub level_found : (ℕ → ℤ) → (ℕ → ℕ) → (ℕ → ℕ) → ℕ → Finding
level_found d a l k =
    let h = refused_level l k in
    found payment_year h 0 (d h) (pos (a h)) (pos (l h))

-- 10
unfoldable pub level_finding : List (List ℤ) → ℕ → Finding
level_finding q k = level_found (λ h. pos (diagonal_of q h)) (running_of q k) (level_of q k) k
