-- Shares and levels (document 01), from a square of averages and k alone, and questions 7 to 10. Assumes nothing.
use Rattle.std.specs.Prelude.{ℕ, zero, suc, ◌+◌, ◌-◌, ◌*◌, ◌/◌, Bool, ◌&&◌, List, [], ◌∷◌, leb, ℤ, pos, nat_abs, ◌-ℤ◌, replicate}
use Rattle.std.specs.Int.Signed.{le_z}
use Rattle.rules.specs.Lists.{up_to, below, padded, every}
use Rattle.rules.specs.Questions.{first_no, after_call}
use Rattle.rules.specs.Triangle.{column_total, diagonal_total, corner_total, all_total}
use Rattle.rules.specs.declared.Factors.{Factors}

-- S, one whole in billionths
abbrev pub billion : ℕ
billion = 1000000000

-- v_j, d_h and T_h as whole numbers, which they are once questions 7 and 8 say yes
unfoldable pub column_of : List (List ℤ) → ℕ → ℕ
column_of s j = nat_abs (column_total s j)

unfoldable pub diagonal_of : List (List ℤ) → ℕ → ℕ
diagonal_of s h = nat_abs (diagonal_total s h)

unfoldable pub corner_of : List (List ℤ) → ℕ → ℕ
corner_of s h = nat_abs (corner_total s h)

-- the running share A_{k−m}: A_k = S, and A_{h−1} = ⌊A_h × (T_h − v_h) / T_h⌋. In the exact solution T_h is A_h × (l_h + .. + l_k), so that 004 (6), v_h over
-- those levels, is A_h × v_h / T_h
unfoldable pub running_down : List (List ℤ) → ℕ → ℕ → ℕ
running_down s k zero = billion
running_down s k (suc m) = running_down s k m * (corner_of s (k - m) - column_of s (k - m)) / corner_of s (k - m)

-- the running share A_h
unfoldable pub running_of : List (List ℤ) → ℕ → ℕ → ℕ
running_of s k h = running_down s k (k - h)

-- the share r_h: r_0 = A_0, r_h = A_h − A_{h−1}
unfoldable pub share_of : List (List ℤ) → ℕ → ℕ → ℕ
share_of s k zero = running_of s k 0
share_of s k (suc h) = running_of s k (suc h) - running_of s k h

-- the level l_h = ⌊d_h × S / A_h⌋, once question 9 says yes
unfoldable pub level_of : List (List ℤ) → ℕ → ℕ → ℕ
level_of s k h = diagonal_of s h * billion / running_of s k h

-- the years 0 to k, and the years 1 to k
abbrev pub years0 : ℕ → List ℕ
years0 k = below (k + 1)

abbrev pub years1 : ℕ → List ℕ
years1 k = up_to (λ h. h + 1) k

-- 7. Is every v_j and every d_h at least 0, and the total of averages at most S?
unfoldable pub totals_pass : List (List ℤ) → ℕ → Bool
totals_pass s k =
    every (λ j. le_z (pos 0) (column_total s j)) (years0 k)
    && (every (λ h. le_z (pos 0) (diagonal_total s h)) (years0 k) && le_z (all_total s) (pos billion))

-- 8. Is T_h − v_h at least 1 for every h from 1 to k?
unfoldable pub rests_pass : List (List ℤ) → ℕ → Bool
rests_pass s k = every (λ h. le_z (pos 1) (corner_total s h -ℤ column_total s h)) (years1 k)

-- 9. Is every A_h at least 1?
unfoldable pub running_pass : List (List ℤ) → ℕ → Bool
running_pass s k = every (λ h. leb 1 (running_of s k h)) (years0 k)

-- 10. Is every l_h at most S?
unfoldable pub levels_pass : List (List ℤ) → ℕ → Bool
levels_pass s k = every (λ h. leb (level_of s k h) billion) (years0 k)

-- questions 7 to 10, and the number that the separation of a square answers
unfoldable pub separation_questions : List (List ℤ) → ℕ → List (ℕ × Bool)
separation_questions s k = (7, totals_pass s k) ∷ (8, rests_pass s k) ∷ (9, running_pass s k) ∷ (10, levels_pass s k) ∷ []

unfoldable pub separate_answer : List (List ℤ) → ℕ → ℕ
separate_answer s k = first_no (separation_questions s k)

-- the shares and levels of the years 0 to k as one set of factors, zero past them
unfoldable pub factors_of : List (List ℤ) → ℕ → Factors
factors_of s k = record { shares = padded 16 0 (up_to (share_of s k) (k + 1)); levels = padded 16 0 (up_to (level_of s k) (k + 1)); k = k }

-- no factors: what a refused separation hands back
unfoldable pub no_factors : ℕ → Factors
no_factors k = record { shares = replicate 16 0; levels = replicate 16 0; k = k }

unfoldable pub separated : List (List ℤ) → ℕ → Factors
separated s k = after_call (separate_answer s k) (factors_of s k) (no_factors k)
