-- What is read of a record: the rows of fields as far as question 4 says yes, and what the later steps use of figures that have passed questions 4 and 5.
-- Assumes nothing.
use Rattle.std.specs.Prelude.{ℕ, ◌+◌, ◌*◌, ◌<◌, ◌≤◌, ◌^◌, cond, List, [], ◌∷◌, pos, nat_abs, length, get_or, take, drop, ◌≡◌}
use Rattle.rules.specs.Lists.{every, total}
use Rattle.rules.specs.Record.{Kind, layout, bits_in_range, codes_of, last_year_of, Figures, million, most_index, most_amount}
use Rattle.entries.specs.Leading.{passing}

-- a row of n fields of w bits lies within the bytes s
pub record RowInside (s : List ℕ) (at w n : ℕ) : Type 0 where
  pub some : 0 < w
  pub narrow : w ≤ 56
  pub word : 8 ≤ length s
  pub short : length s < 2 ^ 32
  pub inside : at + w * n ≤ 8 * length s

-- of the codes of the rows of a layout: each row as far as its fields are in range, and nothing after a row with a field out of range
unfoldable pub rows_read : List (ℕ × Kind) → List ℕ → List (List ℕ)
rows_read [] codes = []
rows_read (r ∷ rs) codes =
    passing (bits_in_range r.1) (take r.0 codes)
    ∷ rows_read rs (cond (every (bits_in_range r.1) (take r.0 codes)) (drop r.0 codes) [])

-- row i of the record s
unfoldable pub row_read : List ℕ → ℕ → List ℕ
row_read s i = get_or (rows_read (layout (last_year_of s)) (codes_of s)) i []

-- entries past the lists' ends are bounded too, since they are zero
pub record Sound (f : Figures) : Type 0 where
  pub some : 1 ≤ f.k
  pub few : f.k < 16
  pub exposures : (i : ℕ) → i ≤ f.k → (1 ≤ get_or f.exposures i 0) × (get_or f.exposures i 0 ≤ million)
  pub exposures_most : (i : ℕ) → get_or f.exposures i 0 ≤ million
  pub increments : (i : ℕ) → nat_abs (get_or f.increments i (pos 0)) ≤ most_amount
  pub indices : (t : ℕ) → get_or f.indices t 0 ≤ most_index
  pub first_index : 1 ≤ get_or f.indices 0 0
  pub reporting : (j : ℕ) → get_or f.reporting j 0 ≤ million
  pub reporting_sum : total (take (f.k + 1) f.reporting) ≡ million
  pub weight : f.weight ≤ million
  pub ulae : (t : ℕ) → get_or f.ulae t 0 ≤ most_amount
  pub tail : f.tail ≤ most_amount
