-- The ULAE ratio under growth (request 1 of document 02), corrected as document 000 (3.13) says, from valuation year 2027 on. p are the increments, b the
-- reporting shares, w the weight, c the paid cumulatives by row and q the provisions. Questions 15, 16 and 17. Assumes nothing.
use Rattle.std.specs.Prelude.{ℕ, ◌+◌, ◌-◌, ◌*◌, ◌/◌, Bool, true, cond, List, [], ◌∷◌, leb, ℤ, pos, nat_abs, get_or}
use Rattle.std.specs.Int.Signed.{le_z}
use Rattle.rules.specs.Lists.{total, up_to}
use Rattle.rules.specs.Record.{million}
use Rattle.rules.specs.Triangle.{paid_of, sum_to}
use Rattle.rules.specs.Completion.{ultimate}

-- the first valuation year whose ratio is corrected, and whether a year's is
abbrev pub first_corrected_year : ℕ
first_corrected_year = 2027

unfoldable pub corrects : ℕ → Bool
corrects year = leb first_corrected_year year

-- B, what is reported in the latest year, at its ultimate cost: the sum of b_j × X_{k−j} over j from 0 to k, divided by M and rounded down once
unfoldable pub latest_reported : ℕ → List ℕ → List ℕ → List ℕ → ℕ
latest_reported k b c q = total (up_to (λ j. get_or b j 0 * ultimate c q (k - j)) (k + 1)) / million

-- Y, what is paid in the latest year: the sum of P_{i,k−i} over i from 0 to k
unfoldable pub latest_paid : ℕ → List ℤ → ℤ
latest_paid k p = sum_to (λ i. paid_of k p i (k - i)) (k + 1)

-- 15. Is Y at least 1?
unfoldable pub latest_paid_passes : ℤ → Bool
latest_paid_passes paid = le_z (pos 1) paid

-- the divisor M − w + ⌊w × B / Y⌋, once question 15 says yes
unfoldable pub divisor_of : ℕ → ℕ → ℤ → ℕ
divisor_of w reported paid = million - w + w * reported / nat_abs paid

-- 16. Is the divisor not 0?
unfoldable pub divisor_passes : ℕ → Bool
divisor_passes divisor = leb 1 divisor

-- the corrected ratio, ⌊plain ratio × M / divisor⌋, once question 16 says yes
unfoldable pub corrected_ratio : ℕ → ℕ → ℕ
corrected_ratio plain divisor = plain * million / divisor

-- 17. Is the corrected ratio at most M?
unfoldable pub corrected_ratio_passes : ℕ → Bool
corrected_ratio_passes ratio = leb ratio million

-- questions 15, 16 and 17, which every earlier valuation year passes
unfoldable pub growth_questions : ℕ → ℕ → ℤ → ℕ → List (ℕ × Bool)
growth_questions year plain paid divisor =
    (15, cond (corrects year) (latest_paid_passes paid) true)
    ∷ (16, cond (corrects year) (divisor_passes divisor) true)
    ∷ (17, cond (corrects year) (corrected_ratio_passes (corrected_ratio plain divisor)) true)
    ∷ []

-- the ratio that is used, and listed as p: the corrected one, and of an earlier valuation year the plain one
unfoldable pub used_ratio : ℕ → ℕ → ℕ → ℕ
used_ratio year plain divisor = cond (corrects year) (corrected_ratio plain divisor) plain
