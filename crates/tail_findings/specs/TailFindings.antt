-- Where questions 18 and 19 say no of the figures f, and the figures there. Assumes nothing.
use Rattle.std.specs.Prelude.{ℕ, ◌+◌, leb, pos, get_or}
use Rattle.rules.specs.Record.{Figures}
use Rattle.rules.specs.Tail.{tail_average, most_tail_average}
use Rattle.rules.specs.Results.{first_tail_average_of}
use Rattle.entries.specs.Leading.{leading}
use Rattle.finding.specs.Places.{origin_year, found}
use Rattle.finding.specs.declared.Finding.{Finding}

-- 18, of year 0: the amount still to be paid, its claims and t_0
unfoldable pub tail_finding : Figures → Finding
tail_finding f = found origin_year 0 0 (pos f.tail) (pos (get_or f.exposures 0 0)) (pos (first_tail_average_of f))

-- the first of the years 0 to k whose t_i is above the most; k + 1 where there is none
unfoldable pub first_average_over : Figures → ℕ
first_average_over f = leading (λ i. leb (tail_average (first_tail_average_of f) f.indices i) most_tail_average) (f.k + 1)

-- 19, of that year: its t_i, its index and the first index
unfoldable pub tail_average_finding : Figures → Finding
tail_average_finding f =
    let i = first_average_over f in
    found origin_year i 0 (pos (tail_average (first_tail_average_of f) f.indices i)) (pos (get_or f.indices i 0)) (pos (get_or f.indices 0 0))
