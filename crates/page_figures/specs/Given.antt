-- How large the figures are at most that a report is made of. Assumes nothing.
use Rattle.std.specs.Prelude.{ℕ, ◌+◌, ◌≤◌, ◌≡◌, List, ℤ, pos, nat_abs, length, get_or}
use Rattle.rules.specs.Record.{million, cells}
use Rattle.rules.specs.Separation.{billion}
use Rattle.rules.specs.Results.{share_section, level_section, result_count, section_start}
use Rattle.signed_sums.specs.Small.{most_figure, Sized}
use Rattle.vectors.specs.Vectors.{most_figures}
use Rattle.figure_places.specs.Places.{added_at}

-- the most of an entry of the result list or of a field, 10^14; of what is worked out from them, 2 × 10^15; and of what is worked out from that, 10^17
abbrev pub most_given : ℕ
most_given = 100000000000000

abbrev pub most_worked : ℕ
most_worked = 2000000000000000

abbrev pub most_shown : ℕ
most_shown = 100000000000000000

-- no number is above that
abbrev pub Counted : List ℕ → Type 0
Counted xs = (i : ℕ) → get_or xs i 0 ≤ most_given

-- how long the lists are
pub record Long (k : ℕ) (list : List ℤ) (n : List ℕ) (p : List ℤ) (e b u : List ℕ) : Type 0 where
  pub results : result_count k ≤ length list
  pub exposures : k + 1 ≤ length n
  pub increments : cells k ≤ length p
  pub indices : k + 1 ≤ length e
  pub reporting : k + 1 ≤ length b
  pub ulae : k + 1 ≤ length u

-- a result list and fields of the years 0 to k
pub record Given (k : ℕ) (list : List ℤ) (n : List ℕ) (p : List ℤ) (e b u : List ℕ) : Type 0 where
  pub long : Long k list n p e b u
  pub entries : Sized most_given 0 (result_count k) list
  pub shares : Sized billion (section_start k share_section) (k + 1) list
  pub levels : Sized billion (section_start k level_section) (k + 1) list
  pub exposures : (i : ℕ) → get_or n i 0 ≤ million
  pub increments : (i : ℕ) → nat_abs (get_or p i (pos 0)) ≤ most_given
  pub indices : Counted e
  pub reporting : Counted b
  pub ulae : Counted u

-- the same in the array
pub record Based (k : ℕ) (xs : List ℤ) : Type 0 where
  pub long : length xs ≡ most_figures
  pub entries : Sized most_given 0 (added_at k).cumulatives xs
  pub shares : Sized billion (section_start k share_section) (k + 1) xs
  pub levels : Sized billion (section_start k level_section) (k + 1) xs
  pub exposures : Sized million (added_at k).exposures (k + 1) xs

-- and of what is worked out from them
pub record Worked (k : ℕ) (xs : List ℤ) : Type 0 where
  pub long : length xs ≡ most_figures
  pub entries : Sized most_worked 0 (added_at k).remaining xs

-- what tables and plots ask of all: none is too large for a sum, and none up to the differences of the two methods too large for a plot
pub record Figured (k : ℕ) (xs : List ℤ) : Type 0 where
  pub all : Sized most_shown 0 ((added_at k).sums + (k + 1)) xs
  pub plotted : Sized most_figure 0 (added_at k).differences xs
