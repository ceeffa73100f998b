-- The input of a program that runs the engine: the valuation year in two bytes and then the record. Assumes nothing.
use Rattle.std.specs.Prelude.{ℕ, ◌+◌, ◌*◌, cond, List, leb, length, get_or, drop}

-- the number in the two bytes at place p, the high one first
unfoldable pub pair_at : List ℕ → ℕ → ℕ
pair_at s p = 256 * get_or s p 0 + get_or s (p + 1) 0

-- the valuation year, 0 where an input ends before both of its bytes, and the record: none in such an input
unfoldable pub year_in : List ℕ → ℕ
year_in input = cond (leb 2 (length input)) (pair_at input 0) 0

unfoldable pub record_in : List ℕ → List ℕ
record_in input = drop 2 input
