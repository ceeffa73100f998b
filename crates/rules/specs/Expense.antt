-- ULAE reserve (document 01), the New York method of document 000 (3.10). p are the increments, u the ULAE totals, b the reporting shares, w the weight,
-- c the paid cumulatives by row and q the provisions. Question 12. Assumes nothing.
use Rattle.std.specs.Prelude.{ℕ, ◌+◌, ◌-◌, ◌*◌, ◌/◌, Bool, ◌&&◌, List, ℤ, pos, nat_abs, get_or, take}
use Rattle.std.specs.Int.Signed.{le_z}
use Rattle.rules.specs.Lists.{total, up_to}
use Rattle.rules.specs.Record.{million, cells}
use Rattle.rules.specs.Triangle.{sum_to}
use Rattle.rules.specs.Completion.{ultimate}

-- the total of all P, and the total of U
unfoldable pub paid_total : ℕ → List ℤ → ℤ
paid_total k p = sum_to (λ c. get_or p c (pos 0)) (cells k)

unfoldable pub ulae_total : ℕ → List ℕ → ℕ
ulae_total k u = total (take (k + 1) u)

-- 12. Is the total of P at least 1, and the total of U at most that?
unfoldable pub ratio_pass : ℤ → ℕ → Bool
ratio_pass paid spent = le_z (pos 1) paid && le_z (pos spent) paid

-- the plain ratio, ⌊M × total of U / total of all P⌋, once question 12 says yes
unfoldable pub plain_ratio : ℤ → ℕ → ℕ
plain_ratio paid spent = million * spent / nat_abs paid

-- B_i, the sum of b_l for l > k − i
unfoldable pub reported_after : ℕ → List ℕ → ℕ → ℕ
reported_after k b i = total (up_to (λ m. get_or b (k + 1 - i + m) 0) i)

-- not yet reported, N_i = ⌊X_i × B_i / M⌋
unfoldable pub not_reported : ℕ → List ℕ → List ℕ → List ℕ → ℕ → ℕ
not_reported k b c q i = ultimate c q i * reported_after k b i / million

-- H_i = ⌊(w × N_i + (M − w) × R_i) / M⌋, and the reserve Q_i = ⌊ratio × H_i / M⌋, from the ratio that is used, the weight w, n = N_i and r = R_i
unfoldable pub weighted : ℕ → ℕ → ℕ → ℕ
weighted w n r = (w * n + (million - w) * r) / million

unfoldable pub reserve_of : ℕ → ℕ → ℕ → ℕ → ℕ
reserve_of ratio w n r = ratio * weighted w n r / million

unfoldable pub reserve : ℕ → ℕ → ℕ → List ℕ → List ℕ → List ℕ → ℕ → ℕ
reserve k ratio w b c q i = reserve_of ratio w (not_reported k b c q i) (get_or q i 0)
