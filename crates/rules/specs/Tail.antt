-- Payments after the last year (request 3 of document 02; 004 (8)): the amount still to be paid for year 0, a, is carried to the other years by the indices.
-- n are the exposures, e the indices, of which e_h stands at place h − 1, and t the average t_0. Where names say tails, they are the tail payments. Questions 18
-- and 19. Assumes nothing.
use Rattle.std.specs.Prelude.{ℕ, ◌+◌, ◌*◌, ◌/◌, Bool, List, [], ◌∷◌, leb, pos, nat_abs, get_or}
use Rattle.rules.specs.Lists.{up_to, below, every}
use Rattle.rules.specs.Triangle.{average_of}
use Rattle.rules.specs.Separation.{billion}

-- t_0, the average of the amount over n_0, rounded as any other
unfoldable pub first_tail_average : ℕ → List ℕ → ℕ
first_tail_average a n = nat_abs (average_of (pos a) (get_or n 0 0))

-- t_i = ⌊t_0 × e_{i+1} / e_1⌋, the average still to be paid for year i
unfoldable pub tail_average : ℕ → List ℕ → ℕ → ℕ
tail_average t e i = t * get_or e i 0 / get_or e 0 0

-- the tail payment of year i, ⌊n_i × t_i / 100⌋, also for year 0, and those of the years 0 to k
unfoldable pub tail_payment : List ℕ → ℕ → List ℕ → ℕ → ℕ
tail_payment n t e i = get_or n i 0 * tail_average t e i / 100

unfoldable pub tail_payments : ℕ → List ℕ → ℕ → List ℕ → List ℕ
tail_payments k n t e = up_to (tail_payment n t e) (k + 1)

-- 18. Is t_0 at most S?
unfoldable pub first_tail_average_passes : ℕ → Bool
first_tail_average_passes t = leb t billion

-- the most of a t_i, 5 × S
abbrev pub most_tail_average : ℕ
most_tail_average = 5 * billion

-- 19. Is every t_i at most 5 × S?
unfoldable pub tail_averages_pass : ℕ → ℕ → List ℕ → Bool
tail_averages_pass k t e = every (λ i. leb (tail_average t e i) most_tail_average) (below (k + 1))

-- questions 18 and 19
unfoldable pub tail_questions : ℕ → ℕ → List ℕ → List (ℕ × Bool)
tail_questions k t e = (18, first_tail_average_passes t) ∷ (19, tail_averages_pass k t e) ∷ []
