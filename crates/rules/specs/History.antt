-- Shares through a long history (request 11 of document 02): the cells of a history, a window of origin years that slides over it, what is given of each of its
-- positions, and questions 27 and 28. Assumes nothing.
use Rattle.std.specs.Prelude.{ℕ, zero, suc, ◌+◌, ◌-◌, ◌*◌, min, Bool, ◌&&◌, List, [], ◌∷◌, ◌++◌, map, eqb, leb, ℤ, pos, length, get_or, take}
use Rattle.rules.specs.Lists.{up_to, joined, every, between}
use Rattle.rules.specs.Questions.{first_no, after_call}
use Rattle.rules.specs.Record.{in_range, exposure, increment}
use Rattle.rules.specs.Triangle.{averages_of}
use Rattle.rules.specs.Separation.{separate_answer, separated}

-- the most origin years of a history, and the most development years of one
abbrev pub most_history : ℕ
most_history = 64

abbrev pub most_development : ℕ
most_development = 16

-- the least and the most of a window's width
abbrev pub least_width : ℕ
least_width = 2

abbrev pub most_width : ℕ
most_width = 16

-- The history: its cells are the paid increments by row, origin year after origin year.

-- how many development years origin year i has: its first min(16, years − i)
unfoldable pub development_years : ℕ → ℕ → ℕ
development_years years i = min most_development (years - i)

-- where origin year i starts among the cells by row, and how many cells there are
unfoldable pub history_start : ℕ → ℕ → ℕ
history_start years zero = 0
history_start years (suc i) = history_start years i + development_years years i

unfoldable pub history_cells : ℕ → ℕ
history_cells years = history_start years years

-- the increment of origin year i and development year j, j below development_years, p the increments by row
unfoldable pub history_paid : ℕ → List ℤ → ℕ → ℕ → ℤ
history_paid years p i j = get_or p (history_start years i + j) (pos 0)

-- The window: position a has the origin years a to a + width − 1. What is cut out for it is a record's triangle of the years 0 to width − 1.

-- the exposures of its origin years
unfoldable pub window_exposures : ℕ → List ℕ → ℕ → List ℕ
window_exposures width n a = up_to (λ i. get_or n (a + i) 0) width

-- the increments inside it that were paid by its last year, by row: of origin year a + i those whose payment year a + i + j is at most a + width − 1
unfoldable pub window_increments : ℕ → ℕ → List ℤ → ℕ → List ℤ
window_increments years width p a = joined (up_to (λ i. up_to (history_paid years p (a + i)) (width - i)) width)

-- their averages
unfoldable pub window_averages : ℕ → ℕ → List ℕ → List ℤ → ℕ → List (List ℤ)
window_averages years width n p a = averages_of (width - 1) (window_exposures width n a) (window_increments years width p a)

-- What is given of a square of averages of the years 0 to k: 0, or the number of the first of questions 7 to 10 that says no; the k + 1 shares and the k + 1 levels, zeros
-- where it is not 0.
unfoldable pub separation_entries : List (List ℤ) → ℕ → List ℤ
separation_entries s k =
    pos (separate_answer s k) ∷ (map pos (take (k + 1) (separated s k).shares) ++ map pos (take (k + 1) (separated s k).levels))

-- of position a
unfoldable pub position_of : ℕ → ℕ → List ℕ → List ℤ → ℕ → List ℤ
position_of years width n p a = separation_entries (window_averages years width n p a) (width - 1)

-- how many positions a width of at most the years has up to the latest payment year, and how many entries are given of them
unfoldable pub position_count : ℕ → ℕ → ℕ
position_count years width = years - width + 1

unfoldable pub history_count : ℕ → ℕ → ℕ
history_count years width = position_count years width * (1 + 2 * width)

-- the most cells and the most entries, those of 64 years, and of windows of 16
abbrev pub most_history_cells : ℕ
most_history_cells = 904

abbrev pub most_history_entries : ℕ
most_history_entries = 1617

-- the list of a history: position by position
unfoldable pub history_list : ℕ → ℕ → List ℕ → List ℤ → List ℤ
history_list years width n p = joined (up_to (position_of years width n p) (position_count years width))

-- The questions.

-- 27. Has the history at most 64 years, and is the width from 2 to 16 and at most the years?
unfoldable pub width_passes : ℕ → ℕ → Bool
width_passes years width = leb years most_history && (between least_width most_width width && leb width years)

-- whether the exposures, the cells and the lent result, of m entries, have just the lengths needed
unfoldable pub lengths_pass : ℕ → ℕ → List ℕ → List ℤ → ℕ → Bool
lengths_pass years width n p m = eqb (length n) years && (eqb (length p) (history_cells years) && eqb m (history_count years width))

-- 28. Have the exposures, the cells and the lent result just the lengths needed, and is every exposure and every cell in its range, a cell of no window too?
unfoldable pub history_passes : ℕ → ℕ → List ℕ → List ℤ → ℕ → Bool
history_passes years width n p m = lengths_pass years width n p m && (every (λ x. in_range exposure (pos x)) n && every (in_range increment) p)

unfoldable pub history_questions : ℕ → ℕ → List ℕ → List ℤ → ℕ → List (ℕ × Bool)
history_questions years width n p m = (27, width_passes years width) ∷ (28, history_passes years width n p m) ∷ []

-- the number that a call answers
unfoldable pub history_answer : ℕ → ℕ → List ℕ → List ℤ → ℕ → ℕ
history_answer years width n p m = first_no (history_questions years width n p m)

-- the lent result after a call: the list, which is as long as the lent result, or on a refusal what it held
unfoldable pub history_into : ℕ → ℕ → List ℕ → List ℤ → List ℤ → List ℤ
history_into years width n p held = after_call (history_answer years width n p (length held)) (history_list years width n p) held
