-- Styles of a triangle's cells, by row: how large the averages are, and how far they are from the fitted values. Assumes nothing.
use Rattle.std.specs.Prelude.{ℕ, suc, ◌+◌, ◌*◌, ◌/◌, max, Bool, ◌&&◌, cond, List, eqb, ltb, ℤ, pos, negsuc, nat_abs}
use Rattle.rules.specs.Record.{cells}
use Rattle.rules.specs.Results.{average_section, section_start}
use Rattle.table_cells.specs.Cells.{plain, shade, above, below, negative, lost, styled, largest}
use Rattle.vectors.specs.Vectors.{figure_at}
use Rattle.figure_places.specs.Places.{added_at}

-- the largest size of n figures from place `start` on
unfoldable pub largest_size : ℕ → ℕ → List ℤ → ℕ
largest_size start n xs = largest (λ m. nat_abs (figure_at xs (start + m))) n

-- a step's mark, none for step 0
unfoldable pub stepped : (ℕ → ℕ) → ℕ → ℕ
stepped mark step = cond (eqb step 0) plain (mark step)

-- the step of a size among those up to `most`: 0 to 5
unfoldable pub size_step : ℕ → ℕ → ℕ
size_step most size = 6 * size / (most + 1)

-- the mark of an average by its size; one below zero always has a mark
unfoldable pub size_mark : ℕ → ℤ → ℕ
size_mark most (pos n) = stepped shade (size_step most n)
size_mark most (negsuc n) = negative (max 1 (size_step most (suc n)))

-- whether a payment is not zero but its average is 0.00
unfoldable pub is_lost : ℤ → ℤ → Bool
is_lost payment average = eqb (nat_abs average) 0 && ltb 0 (nat_abs payment)

-- the mark of an average
unfoldable pub average_mark : ℕ → ℤ → ℤ → ℕ
average_mark most payment average = cond (is_lost payment average) lost (size_mark most average)

-- 1 where a size is more than t percent of the fitted value, 0 otherwise
unfoldable pub exceeds : ℕ → ℕ → ℕ → ℕ
exceeds t size fitted = cond (ltb (t * fitted) (100 * size)) 1 0

-- the step of a gap: how many of 5, 10, 25 and 50 percent its size exceeds
unfoldable pub gap_step : ℕ → ℕ → ℕ
gap_step size fitted = exceeds 5 size fitted + exceeds 10 size fitted + exceeds 25 size fitted + exceeds 50 size fitted

-- the mark of a gap, what is observed less what is fitted
unfoldable pub gap_mark : ℕ → ℤ → ℕ
gap_mark fitted (pos n) = stepped above (gap_step n fitted)
gap_mark fitted (negsuc n) = stepped below (gap_step (suc n) fitted)

-- the style of cell m of the averages of the years 0 to k
unfoldable pub average_style : ℕ → List ℤ → ℕ → ℕ
average_style k xs m =
    styled (average_mark (largest_size (section_start k average_section) (cells k) xs) (figure_at xs ((added_at k).increments + m)) (figure_at xs (section_start k average_section + m))) 2

-- and of the gaps
unfoldable pub gap_style : ℕ → List ℤ → ℕ → ℕ
gap_style k xs m = styled (gap_mark (nat_abs (figure_at xs ((added_at k).fitted + m))) (figure_at xs ((added_at k).gaps + m))) 2
