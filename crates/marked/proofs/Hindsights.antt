-- Worked calls for a hindsight run (request 12 of document 02): document 01's two-year triangle as what is kept of three years, whose payment of 44 is the forecast, its motor
-- account, steps marked 7 and 8 beside ones that are not, steps that all are marked, a record that the engine refuses with 13, and what is refused with 1, 2, 29, 3 and 6; they are ours, and the numbers those of a Python model. Assumes nothing.
use mathlib.Core.Path.{◌≡◌, refl}
use mathlib.Core.List.{List, [], ◌∷◌, ◌++◌, map, zip_with}
use Prim.Native.Nat.{ℕ, ◌+◌}
use lib.IntN.{ℤ, pos, negsuc}
use lib.ListN.{replicate}
use Rattle.rules.specs.Lists.{total, up_to, padded, joined, every}
use Rattle.rules.specs.Packing.{pack, unpack, number_of, bytes_of}
use Rattle.rules.specs.Questions.{first_no, after_call}
use Rattle.rules.specs.Record.{figures, cells, layout, kinds_of, section, widths, bit_count, byte_count, filling_count, value_of, code_of, in_range, negative_zero, bits_in_range, every_field, last_year_of, codes_of, filling_of, fields_of, record_of, exposures_in, increments_in, indices_in, reporting_in, weight_in, ulae_in, tail_in, figures_of}
use Rattle.rules.specs.Reading.{has_last_year, has_length, in_ranges, shares_sum_of, opening_questions, field_questions}
use Rattle.rules.specs.Writing.{given_fields}
use Rattle.rules.specs.Triangle.{row_start, paid_of, sum_to, cumulative_of, row_passes, cumulatives_pass, evenly, nearest, average_of, average_row, averages_of, cell_of, cells_total, column_total, diagonal_total, corner_total, all_total}
use Rattle.rules.specs.Separation.{column_of, diagonal_of, corner_of, running_down, running_of, share_of, level_of, totals_pass, rests_pass, running_pass, levels_pass, separation_questions, separate_answer}
use Rattle.rules.specs.Completion.{future_level, payment_of}
use Rattle.rules.specs.Hindsight.{kept_increments, kept_averages, step_mark, forecast, gap_of, step_gaps, step_entries, gap_sum, setting_entries, first_place, best_place, hindsight_list, setting_count, hindsight_count, settings_pass, holds_report, hindsight_questions, hindsight_answer, hindsight_of, hindsight_into}

-- the report of figures of which every exposure is 1
abbrev report : ℕ → List ℤ → List ℕ → List ℤ
report k p settings = hindsight_list k (replicate 16 1) p settings

-- the record of the years 0 to k with the exposure n of every year, these cells, and plain assumptions
abbrev plain_record : ℕ → ℕ → List ℤ → List ℕ
plain_record k n p = record_of k (given_fields (figures k (replicate (k + 1) n) p (replicate (k + 1) 1000000) (1000000 ∷ replicate k 0) 0 (replicate (k + 1) 0) 0))

abbrev three_years : List ℤ
three_years = map pos (60 ∷ 40 ∷ 6 ∷ 66 ∷ 44 ∷ 72 ∷ [])

-- the number that a call answers, and a report of m entries, lent full of sevens, after it
abbrev call : List ℕ → List ℕ → ℕ → List ℤ
call s settings m = pos (hindsight_answer s settings m) ∷ hindsight_into s settings (replicate m (pos 7))

-- what the rules give, and what is expected
abbrev pub hindsight_table : List (List ℤ × List ℤ)
hindsight_table =
    (report 2 three_years (1000000 ∷ 1100000 ∷ 1200000 ∷ []), pos 0 ∷ pos 4 ∷ pos 4 ∷ pos 0 ∷ pos 0 ∷ pos 0 ∷ pos 0 ∷ negsuc 3 ∷ pos 4 ∷ pos 1 ∷ [])
    ∷ (
      report 3 (map pos (504 ∷ 282 ∷ 90 ∷ 48 ∷ 580 ∷ 292 ∷ 97 ∷ 595 ∷ 332 ∷ 662 ∷ [])) (1000000 ∷ 1100000 ∷ 1100000 ∷ []),
      pos 0 ∷ pos 7 ∷ pos 41 ∷ pos 0 ∷ pos 10 ∷ pos 58 ∷ pos 0 ∷ negsuc 1 ∷ pos 12 ∷ pos 0 ∷ negsuc 17 ∷ pos 32 ∷ pos 0 ∷ negsuc 1 ∷ pos 12 ∷ pos 0 ∷ negsuc 17 ∷ pos 32 ∷ pos 1 ∷ [],
    )
    ∷ (
      report 3 (map pos (10 ∷ 0 ∷ 5 ∷ 3 ∷ 0 ∷ 20 ∷ 4 ∷ 12 ∷ 9 ∷ 30 ∷ [])) (1000000 ∷ 1200000 ∷ []),
      pos 0 ∷ negsuc 0 ∷ negsuc 9 ∷ pos 8 ∷ pos 0 ∷ pos 11 ∷ pos 0 ∷ negsuc 1 ∷ negsuc 13 ∷ pos 8 ∷ pos 0 ∷ pos 16 ∷ pos 0 ∷ [],
    )
    ∷ (
      hindsight_list 3 (2 ∷ 8 ∷ 5 ∷ 3 ∷ []) (map pos (120 ∷ 80 ∷ []) ++ (negsuc 5 ∷ map pos (9 ∷ 640 ∷ 300 ∷ 21 ∷ 410 ∷ 230 ∷ 260 ∷ []))) (1000000 ∷ 1100000 ∷ []),
      pos 7 ∷ pos 0 ∷ pos 0 ∷ pos 0 ∷ negsuc 19 ∷ pos 20 ∷ pos 7 ∷ pos 0 ∷ pos 0 ∷ pos 0 ∷ negsuc 51 ∷ pos 52 ∷ pos 0 ∷ [],
    )
    ∷ (report 2 (map pos (60 ∷ 40 ∷ 6 ∷ 0 ∷ 0 ∷ 0 ∷ [])) (1000000 ∷ 1100000 ∷ []), map pos (8 ∷ 0 ∷ 0 ∷ 8 ∷ 0 ∷ 0 ∷ 0 ∷ []))
    ∷ (call (plain_record 2 1 three_years) (1100000 ∷ []) 6, map pos (0 ∷ 0 ∷ 0 ∷ 0 ∷ 0 ∷ 7 ∷ 7 ∷ []))
    ∷ (call (plain_record 2 1 three_years) (1100000 ∷ []) 3, map pos (3 ∷ 7 ∷ 7 ∷ 7 ∷ []))
    ∷ (call (plain_record 2 1 three_years) [] 0 ++ call (plain_record 2 1 three_years) (5000001 ∷ []) 4 ++ call (plain_record 1 1 (map pos (60 ∷ 40 ∷ 66 ∷ []))) (1100000 ∷ []) 1, map pos (29 ∷ 29 ∷ 7 ∷ 7 ∷ 7 ∷ 7 ∷ 29 ∷ 7 ∷ []))
    ∷ (call (plain_record 2 1 (map pos (0 ∷ 40 ∷ 6 ∷ 66 ∷ 44 ∷ 72 ∷ []))) (1000000 ∷ []) 4, map pos (0 ∷ 0 ∷ 4 ∷ 4 ∷ 0 ∷ []))
    ∷ (call (0 ∷ plain_record 2 1 three_years) [] 0 ++ call (32 ∷ []) [] 0 ++ call (plain_record 2 0 three_years) (1100000 ∷ []) 3, map pos (1 ∷ 2 ∷ 3 ∷ 7 ∷ 7 ∷ 7 ∷ []))
    ∷ (call (plain_record 2 1 (pos 60 ∷ negsuc 60 ∷ map pos (6 ∷ 66 ∷ 44 ∷ 72 ∷ []))) (1100000 ∷ []) 4, map pos (6 ∷ 7 ∷ 7 ∷ 7 ∷ 7 ∷ []))
    ∷ []

-- the whole table in one theorem
pub hindsights_hold : map (λ row. row.0) hindsight_table ≡ map (λ row. row.1) hindsight_table
unfolding zip_with total up_to padded joined every pack unpack number_of bytes_of first_no after_call cells layout kinds_of section widths bit_count byte_count filling_count value_of code_of in_range negative_zero bits_in_range every_field last_year_of codes_of filling_of fields_of record_of exposures_in increments_in indices_in reporting_in weight_in ulae_in tail_in figures_of has_last_year has_length in_ranges shares_sum_of opening_questions field_questions given_fields row_start paid_of sum_to cumulative_of row_passes cumulatives_pass evenly nearest average_of average_row averages_of cell_of cells_total column_total diagonal_total corner_total all_total column_of diagonal_of corner_of running_down running_of share_of level_of totals_pass rests_pass running_pass levels_pass separation_questions separate_answer future_level payment_of kept_increments kept_averages step_mark forecast gap_of step_gaps step_entries gap_sum setting_entries first_place best_place hindsight_list setting_count hindsight_count settings_pass holds_report hindsight_questions hindsight_answer hindsight_of hindsight_into
hindsights_hold = refl
