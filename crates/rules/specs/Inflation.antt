-- Inflation as the economists send it (request 5 of document 02): rates in three shapes, the path that they make, its yearly indices, and questions 20 and 21.
-- A float is a value of the kit's `lib.Ieee`: `fin s m e` is m × 2^e, negative where s is true. `add`, `sub` and `mul` at `binary64` round once, to the nearest
-- 64-bit float, and two values are equal just where their bits are (every NaN is one). Assumes nothing.
use Rattle.std.specs.Prelude.{ℕ, zero, suc, ◌+◌, ◌*◌, ◌/◌, ◌≤◌, ◌<◌, Bool, not, true, false, ◌&&◌, cond, List, [], ◌∷◌, eqb, pos, negsuc, replicate, Float}
use Rattle.std.specs.Float.{nan, inf, fin, binary64}
use Rattle.std.specs.Float.Ieee.{up, down, add, sub, mul, le, is_nan}
use Rattle.rules.specs.Lists.{up_to, below, padded, every, between}
use Rattle.rules.specs.Questions.{first_no, after_call}
use Rattle.rules.specs.Record.{most_index}
use Rattle.rules.specs.declared.Inflation.{Inflation}
use Rattle.rules.specs.declared.Inflation.TheVariants.{Flat, Fading, Shock}
use Rattle.rules.specs.declared.Path.{Path}
use Rattle.rules.specs.declared.Indices.{Indices}

-- 0.5, 1.0 and 1,000,000.0
abbrev pub half : Float
half = fin false 1 (negsuc 0)

abbrev pub one : Float
one = fin false 1 (pos 0)

abbrev pub index_scale : Float
index_scale = fin false 15625 (pos 6)

-- the least and the most of a rate, −0.5 and 1.0
abbrev pub least_rate : Float
least_rate = fin true 1 (negsuc 0)

abbrev pub most_rate : Float
most_rate = one

-- the most years that a call may want
abbrev pub most_years : ℕ
most_years = 16

-- The rates.

-- the fading rate n years after the first: the rate as sent, and later the long-run rate plus 0.5 times (the rate of the year before less the long-run rate)
unfoldable pub fading_after : Float → Float → ℕ → Float
fading_after rate long zero = rate
fading_after rate long (suc n) = add binary64 long (mul binary64 half (sub binary64 (fading_after rate long n) long))

-- the rate n years after the first, of each shape; a shock is in a named year, the first being year 1, with another rate in the others
unfoldable pub rate_after : Inflation → ℕ → Float
rate_after (Flat rate) n = rate
rate_after (Fading rate long) n = fading_after rate long n
rate_after (Shock rate other year) n = cond (eqb (suc n) year) rate other

-- The path, the same steps for the rates of any shape: it starts at 1.0, and each year it is multiplied by 1.0 plus that year's rate.
unfoldable pub path_after : (ℕ → Float) → ℕ → Float
path_after rates zero = one
path_after rates (suc n) = mul binary64 (path_after rates n) (add binary64 one (rates n))

-- what is handed from year to year: the rate n years after the first, and the path before that year
unfoldable pub state_after : Inflation → ℕ → Path
state_after shape n = record { rate = rate_after shape n; value = path_after (rate_after shape) n }

-- The indices.

-- W − 0.5 ≤ x < W + 0.5, of a finite x that is not negative, both sides times twice its denominator
abbrev pub WithinHalf : Float → ℕ → Type 0
WithinHalf nan w = ⊥
WithinHalf (inf s) w = ⊥
WithinHalf (fin true m e) w = ⊥
WithinHalf (fin false m e) w = (2 * w * down e ≤ 2 * (m * up e) + down e) × (2 * (m * up e) < (2 * w + 1) * down e)

-- that W, x + 1/2 rounded down; 0 where x is not a finite number from 0 on
unfoldable pub nearest_whole : Float → ℕ
nearest_whole nan = 0
nearest_whole (inf s) = 0
nearest_whole (fin true m e) = 0
nearest_whole (fin false m e) = (2 * (m * up e) + down e) / (2 * down e)

-- the path after the year that is n years after the first, times 1,000,000.0, rounded; and the year's index
unfoldable pub scaled_after : Inflation → ℕ → Float
scaled_after shape n = mul binary64 (path_after (rate_after shape) (suc n)) index_scale

unfoldable pub index_after : Inflation → ℕ → ℕ
index_after shape n = nearest_whole (scaled_after shape n)

-- The questions.

-- whether a rate is a number and lies from −0.5 to 1.0
unfoldable pub rate_fits : Float → Bool
rate_fits rate = not (is_nan rate) && (le least_rate rate && le rate most_rate)

-- whether every rate that is sent does, one that is not used too, and a shock's year is among the years wanted
unfoldable pub shape_fits : Inflation → ℕ → Bool
shape_fits (Flat rate) years = rate_fits rate
shape_fits (Fading rate long) years = rate_fits rate && rate_fits long
shape_fits (Shock rate other year) years = (rate_fits rate && rate_fits other) && between 1 years year

-- 20. Is every rate a number from −0.5 to 1.0, a shock's year among the years wanted, and their number from 1 to 16?
unfoldable pub rates_pass : Inflation → ℕ → Bool
rates_pass shape years = between 1 most_years years && shape_fits shape years

-- 21. Is every index of a year wanted from 1 to 5,000,000?
unfoldable pub indices_pass : Inflation → ℕ → Bool
indices_pass shape years = every (λ n. between 1 most_index (index_after shape n)) (below years)

unfoldable pub inflation_questions : Inflation → ℕ → List (ℕ × Bool)
inflation_questions shape years = (20, rates_pass shape years) ∷ (21, indices_pass shape years) ∷ []

-- the number that a call answers
unfoldable pub inflation_answer : Inflation → ℕ → ℕ
inflation_answer shape years = first_no (inflation_questions shape years)

-- what a call hands back: the number, and sixteen indices, zeros past those wanted or on an error
unfoldable pub indices_of : Inflation → ℕ → Indices
indices_of shape years =
    let number = inflation_answer shape years in
    record { refused = number; values = after_call number (padded most_years 0 (up_to (index_after shape) years)) (replicate most_years 0) }
