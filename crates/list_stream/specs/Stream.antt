-- A stream of records, each behind its length in two bytes, and the rows of its first records, in one valuation year, in a buffer. Assumes nothing.
use Rattle.std.specs.Prelude.{ℕ, zero, suc, ◌+◌, ◌≤◌, ◌<◌, ◌≡◌, Bool, true, ◌&&◌, List, leb, length, take, drop}
use Rattle.rules.specs.Lists.{up_to, joined}
use Rattle.composing.specs.Text.{Put}
use Rattle.valuation.specs.Valuation.{pair_at}
use Rattle.list_runs.specs.Runs.{list_row}

-- where the length of record i stands, i counted from 0
unfoldable pub length_start : List ℕ → ℕ → ℕ
length_start s zero = 0
length_start s (suc i) = length_start s i + 2 + pair_at s (length_start s i)

-- record i: the bytes behind its length
unfoldable pub record_at : List ℕ → ℕ → List ℕ
record_at s i = take (pair_at s (length_start s i)) (drop (length_start s i + 2) s)

-- the rows of the first n records
unfoldable pub rows_text : ℕ → List ℕ → ℕ → List ℕ
rows_text year s n = joined (up_to (λ i. list_row year (record_at s i)) n)

-- whether a whole record stands at place p
unfoldable pub whole_at : List ℕ → ℕ → Bool
whole_at s p = leb (p + 2) (length s) && leb (p + 2 + pair_at s p) (length s)

-- the most bytes of a row: 505 entries of a sign, at most 20 digits and the byte after them
abbrev pub most_row : ℕ
most_row = 11110

-- the first `count` records of s stand before place `from`, and all of their rows are in the buffer and end before place `end`. A record is taken where it
-- is whole and the buffer has room for the longest row after those before it, and the first that is not ends it: so `count` is fixed
pub record RowsPut (year : ℕ) (s before after : List ℕ) (count from end : ℕ) : Type 0 where
  pub place : from ≡ length_start s count
  pub inside : from ≤ length s
  pub put : Put before after 0 end (rows_text year s count)
  pub whole : end ≡ length (rows_text year s count)
  pub fits : end ≤ length before
  pub taken : (i : ℕ) → i < count → length (rows_text year s i) + most_row ≤ length before
  pub done : whole_at s from ≡ true → length before < end + most_row
