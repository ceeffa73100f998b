-- Sections of one array of figures, each worked out from sections before it: sums, differences and running sums. Assumes nothing.
use Rattle.std.specs.Prelude.{ℕ, ◌+◌, Bool, true, false, cond, List, ℤ, pos, ◌+ℤ◌, ◌-ℤ◌, get_or}
use Rattle.rules.specs.Lists.{up_to}
use Rattle.rules.specs.Triangle.{sum_to}

-- how many places the array has, enough for the figures of every k
abbrev pub most_figures : ℕ
most_figures = 1310

-- the figure at place p
abbrev pub figure_at : List ℤ → ℕ → ℤ
figure_at xs p = get_or xs p (pos 0)

-- the sum of two figures, or the first less the second
unfoldable pub combined : Bool → ℤ → ℤ → ℤ
combined less x y = cond less (x -ℤ y) (x +ℤ y)

-- the sums, or the differences, of n figures from place a on and n from place b on
unfoldable pub combined_all : Bool → ℕ → ℕ → ℕ → List ℤ → List ℤ
combined_all less a b n xs = up_to (λ i. combined less (figure_at xs (a + i)) (figure_at xs (b + i))) n

abbrev pub sums : ℕ → ℕ → ℕ → List ℤ → List ℤ
sums = combined_all false

abbrev pub differences : ℕ → ℕ → ℕ → List ℤ → List ℤ
differences = combined_all true

-- the running sums of n figures from place a on
unfoldable pub running : ℕ → ℕ → List ℤ → List ℤ
running a n xs = up_to (λ i. sum_to (λ j. figure_at xs (a + j)) (i + 1)) n
