-- The input of a report's program: the valuation year and the first year in two bytes each, the title's length in one, the title, the length of a line of inflation in one,
-- 0 for none, the line, and then the record. Bytes that are missing count as 0, and a part cut short is what there is of it. The valuation year is `year_in` of crate
-- `valuation`. Assumes nothing.
use Rattle.std.specs.Prelude.{ℕ, ◌+◌, ◌-◌, ◌≤◌, ◌≡◌, List, length, get_or, take, drop}
use Rattle.valuation.specs.Valuation.{pair_at}
use Rattle.titled_input.specs.declared.Parts.{Parts}

-- the first year, 0 for none
unfoldable pub first_in : List ℕ → ℕ
first_in input = pair_at input 2

-- how long the title is said to be, where it ends, and how long the line is said to be
abbrev pub title_size : List ℕ → ℕ
title_size input = get_or input 4 0

abbrev pub title_end : List ℕ → ℕ
title_end input = 5 + title_size input

abbrev pub rates_size : List ℕ → ℕ
rates_size input = get_or input (title_end input) 0

unfoldable pub title_in : List ℕ → List ℕ
title_in input = take (title_size input) (drop 5 input)

-- the line of inflation
unfoldable pub rates_in : List ℕ → List ℕ
rates_in input = take (rates_size input) (drop (title_end input + 1) input)

unfoldable pub titled_record_in : List ℕ → List ℕ
titled_record_in input = drop (title_end input + 1 + rates_size input) input

-- where the three stand in the input, within it; a title and a line have at most 255 bytes
pub record Split (input : List ℕ) (parts : Parts) : Type 0 where
  pub titled_inside : (parts.title ≤ parts.sized) × (parts.sized ≤ parts.rates)
  pub inside : (parts.rates ≤ parts.packed) × (parts.packed ≤ length input)
  pub titled : take (parts.sized - parts.title) (drop parts.title input) ≡ title_in input
  pub rated : take (parts.packed - parts.rates) (drop parts.rates input) ≡ rates_in input
  pub recorded : drop parts.packed input ≡ titled_record_in input
  pub short : (length (title_in input) ≤ 255) × (length (rates_in input) ≤ 255)
