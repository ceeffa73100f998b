-- Where questions 7 and 8 say no of the square q of averages of the years 0 to k, and the figures there. Assumes nothing.
use Rattle.std.specs.Prelude.{ℕ, ◌+◌, ◌*◌, Bool, cond, List, eqb, ltb, ℤ, pos, ◌-ℤ◌}
use Rattle.std.specs.Int.Signed.{le_z}
use Rattle.rules.specs.Triangle.{sum_to, column_total, diagonal_total, corner_total, all_total}
use Rattle.rules.specs.Separation.{billion}
use Rattle.totals.specs.CellSizes.{most_total}
use Rattle.entries.specs.Leading.{leading}
use Rattle.reasons.specs.Reasons.{first_below}
use Rattle.finding.specs.Places.{nowhere, development_year, payment_year, found}
use Rattle.finding.specs.declared.Finding.{Finding}

-- the first column that is below 0, or else the first diagonal, with its total, or else the total of all; v, d and all are these totals
unfoldable pub totals_found : (ℕ → ℤ) → (ℕ → ℤ) → ℤ → ℕ → Finding
totals_found v d all k =
    let j = first_below v k in
    let h = first_below d k in
    cond (ltb j (k + 1)) (found development_year 0 j (v j) (pos 0) (pos 0))
    (cond (ltb h (k + 1)) (found payment_year h 0 (d h) (pos 0) (pos 0)) (found nowhere 0 0 all (pos 0) (pos 0)))

-- 7
unfoldable pub totals_finding : List (List ℤ) → ℕ → Finding
totals_finding q k = totals_found (column_total q) (diagonal_total q) (all_total q) k

-- whether a total that is found passes question 7: that of all up to S, another from 0 on
unfoldable pub total_passes : Finding → Bool
total_passes f = cond (eqb f.place nowhere) (le_z f.one (pos billion)) (le_z (pos 0) f.one)

-- whether T_h − v_h is at least 1, and the first of the years 1 to k of which it is not, k + 1 where there is none; t and v are these totals
unfoldable pub rest_passes_of : (ℕ → ℤ) → (ℕ → ℤ) → ℕ → Bool
rest_passes_of t v h = le_z (pos 1) (t h -ℤ v h)

unfoldable pub refused_rest : (ℕ → ℤ) → (ℕ → ℤ) → ℕ → ℕ
refused_rest t v k = leading (λ m. rest_passes_of t v (m + 1)) k + 1

-- that year, its T_h, its v_h and the difference
unfoldable pub rest_found : (ℕ → ℤ) → (ℕ → ℤ) → ℕ → Finding
rest_found t v k =
    let h = refused_rest t v k in
    found development_year 0 h (t h) (v h) (t h -ℤ v h)

-- 8, and whether it says yes of year h
abbrev pub rest_passes : List (List ℤ) → ℕ → Bool
rest_passes q = rest_passes_of (corner_total q) (column_total q)

unfoldable pub rest_finding : List (List ℤ) → ℕ → Finding
rest_finding q k = rest_found (corner_total q) (column_total q) k

-- T_h by the totals v of the columns and d of the diagonals: the columns up to year h without the diagonals before it
unfoldable pub corner_by : (ℕ → ℤ) → (ℕ → ℤ) → ℕ → ℤ
corner_by v d h = sum_to v (h + 1) -ℤ sum_to d h

-- the most of its size, where no year is past 16
abbrev pub most_corner : ℕ
most_corner = 33 * most_total
