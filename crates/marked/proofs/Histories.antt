-- Worked calls for shares through a history (request 11 of document 02): document 01's two-year example as a window, a window that slides, positions refused beside accepted ones, and
-- what is refused; they are ours, and the numbers those of a Python model. Assumes nothing.
use mathlib.Core.Path.{◌≡◌, refl}
use mathlib.Core.List.{List, [], ◌∷◌, map}
use Prim.Native.Nat.{ℕ}
use lib.IntN.{ℤ, pos, negsuc}
use lib.ListN.{replicate}
use Rattle.rules.specs.Lists.{up_to, padded, joined, every}
use Rattle.rules.specs.Questions.{first_no, after_call}
use Rattle.rules.specs.Record.{in_range}
use Rattle.rules.specs.Triangle.{row_start, paid_of, sum_to, evenly, nearest, average_of, average_row, averages_of, cell_of, cells_total, column_total, diagonal_total, corner_total, all_total}
use Rattle.rules.specs.Separation.{column_of, diagonal_of, corner_of, running_down, running_of, share_of, level_of, totals_pass, rests_pass, running_pass, levels_pass, separation_questions, separate_answer, factors_of, no_factors, separated}
use Rattle.rules.specs.History.{development_years, history_start, history_cells, history_paid, window_exposures, window_increments, window_averages, separation_entries, position_of, position_count, history_count, history_list, width_passes, lengths_pass, history_passes, history_questions, history_answer, history_into}

-- the number that a call answers, and a result of m entries, lent full of sevens, after it
abbrev call : ℕ → ℕ → List ℕ → List ℤ → ℕ → List ℤ
call years width n p m = pos (history_answer years width n p m) ∷ history_into years width n p (replicate m (pos 7))

-- a call that is refused leaves it
abbrev refused : ℕ → ℕ → List ℤ
refused number m = pos number ∷ replicate m (pos 7)

abbrev four_years : List ℤ
four_years = map pos (6000 ∷ 3000 ∷ 1000 ∷ 500 ∷ 6600 ∷ 3400 ∷ 1100 ∷ 7300 ∷ 3700 ∷ 8100 ∷ [])

abbrev four_exposures : List ℕ
four_exposures = 100 ∷ 110 ∷ 120 ∷ 130 ∷ []

-- what the rules give, and what is expected
abbrev pub history_table : List (List ℤ × List ℤ)
history_table =
    (call 2 2 (1 ∷ 1 ∷ []) (map pos (60 ∷ 40 ∷ 66 ∷ [])) 5, map pos (0 ∷ 0 ∷ 622641509 ∷ 377358491 ∷ 9636 ∷ 10600 ∷ []))
    ∷ (
      call 4 3 four_exposures four_years 14,
      map pos (0 ∷ 0 ∷ 599502852 ∷ 302207389 ∷ 98289759 ∷ 10008 ∷ 9981 ∷ 10174 ∷ 0 ∷ 601476027 ∷ 301568378 ∷ 96955595 ∷ 9975 ∷ 10158 ∷ 10314 ∷ []),
    )
    ∷ (call 2 2 (2 ∷ 2 ∷ []) (pos 5483 ∷ negsuc 1212 ∷ pos 5174 ∷ []) 5, map pos (0 ∷ 7 ∷ 0 ∷ 0 ∷ 0 ∷ 0 ∷ []))
    ∷ (call 3 2 (100 ∷ 1 ∷ 10 ∷ []) (map pos (821 ∷ 358 ∷ 541 ∷ 266 ∷ 0 ∷ 0 ∷ [])) 10, map pos (0 ∷ 0 ∷ 986720083 ∷ 13279917 ∷ 832 ∷ 26958 ∷ 8 ∷ 0 ∷ 0 ∷ 0 ∷ 0 ∷ []))
    ∷ (call 0 17 [] [] 5, refused 27 5)
    ∷ (call 65 2 [] [] 5, refused 27 5)
    ∷ (call 4 5 four_exposures four_years 14, refused 27 14)
    ∷ (call 4 3 four_exposures four_years 15, refused 28 15)
    ∷ (call 2 2 (0 ∷ 1 ∷ []) (map pos (22 ∷ 18 ∷ 23 ∷ [])) 5, refused 28 5)
    ∷ (call 4 2 four_exposures (map pos (6000 ∷ 3000 ∷ 1000 ∷ 10000000001 ∷ 6600 ∷ 3400 ∷ 1100 ∷ 7300 ∷ 3700 ∷ 8100 ∷ [])) 15, refused 28 15)
    ∷ []

-- the whole table in one theorem
pub histories_hold : map (λ row. row.0) history_table ≡ map (λ row. row.1) history_table
unfolding up_to padded joined every first_no after_call in_range row_start paid_of sum_to evenly nearest average_of average_row averages_of cell_of cells_total column_total diagonal_total corner_total all_total column_of diagonal_of corner_of running_down running_of share_of level_of totals_pass rests_pass running_pass levels_pass separation_questions separate_answer factors_of no_factors separated development_years history_start history_cells history_paid window_exposures window_increments window_averages separation_entries position_of position_count history_count history_list width_passes lengths_pass history_passes history_questions history_answer history_into
histories_hold = refl
