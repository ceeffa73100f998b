-- The list of a history by its positions (request 11 of document 02): each has its number, then its shares, then its levels. Assumes nothing.
use Rattle.std.specs.Prelude.{ℕ, ◌+◌, ◌*◌, ◌≤◌, Bool, not, List, eqb, ℤ, pos, nat_abs, get_or}
use Rattle.rules.specs.History.{most_history, least_width, most_width}

-- what is asked of a history and of its windows (question 27), and of its first origin year
pub record Windowed (years width first : ℕ) : Type 0 where
  pub years_most : years ≤ most_history
  pub width_least : least_width ≤ width
  pub width_most_lem : width ≤ most_width
  pub width_fits : width ≤ years
  pub first_most : first ≤ 65535

-- a position of a window of so many years in the longest history
abbrev pub Inside : ℕ → ℕ → Type 0
Inside width a = (a + width ≤ most_history) × (width ≤ most_width)

-- entry e of position a: the number, width shares and width levels
unfoldable pub position_entry : List ℤ → ℕ → ℕ → ℕ → ℤ
position_entry list width a e = get_or list (a * (1 + 2 * width) + e) (pos 0)

-- the number of position a, 0 or that of the question that refused it
unfoldable pub number_of : List ℤ → ℕ → ℕ → ℕ
number_of list width a = nat_abs (position_entry list width a 0)

-- whether it is refused
unfoldable pub refused : List ℤ → ℕ → ℕ → Bool
refused list width a = not (eqb (number_of list width a) 0)

-- no entry's size is above 10^9, one whole in billionths and the most of a level
abbrev pub Small : List ℤ → Type 0
Small list = (p : ℕ) → nat_abs (get_or list p (pos 0)) ≤ 1000000000
