-- Records whose answer of valuation year 2027 changed, one for each of the questions that 13 was put before: the answer of before, and the answer. The third is document 01's case with k = 2.
-- Assumes nothing.
use Prim.Native.Nat.{ℕ}
use mathlib.Core.Path.{◌≡◌, refl}
use mathlib.Core.List.{List, [], ◌∷◌, map, zip_with}
use lib.IntN.{pos, negsuc}
use lib.ListN.{replicate}
use Rattle.rules.specs.Lists.{total, up_to, padded, every}
use Rattle.rules.specs.Packing.{pack, unpack, number_of, bytes_of}
use Rattle.rules.specs.Questions.{first_no}
use Rattle.rules.specs.Record.{figures, cells, layout, kinds_of, section, widths, bit_count, byte_count, filling_count, value_of, code_of, in_range, negative_zero, bits_in_range, every_field, last_year_of, codes_of, filling_of, fields_of, record_of, exposures_in, increments_in, indices_in, reporting_in, weight_in, ulae_in, tail_in, figures_of}
use Rattle.rules.specs.Reading.{has_last_year, has_length, in_ranges, shares_sum_of, opening_questions, field_questions}
use Rattle.rules.specs.Writing.{given_fields}
use Rattle.rules.specs.Triangle.{row_start, paid_of, sum_to, cumulative_of, row_passes, cumulatives_pass, given_cumulative, paid_to, evenly, nearest, average_of, average_row, averages_of, cell_of, cells_total, column_total, diagonal_total, corner_total, all_total}
use Rattle.rules.specs.Separation.{column_of, diagonal_of, corner_of, running_down, running_of, share_of, level_of, totals_pass, rests_pass, running_pass, levels_pass, factors_of, separation_questions, separate_answer}
use Rattle.rules.specs.Tail.{first_tail_average, tail_average, tail_payment, tail_payments, first_tail_average_passes, tail_averages_pass, tail_questions}
use Rattle.rules.specs.Completion.{future_level, future_levels, payment_of, payment, payment_row, payments, provision, provisions, ultimate, ultimates_pass}
use Rattle.rules.specs.Expense.{paid_total, ulae_total, ratio_pass, plain_ratio}
use Rattle.rules.specs.Growth.{corrects, latest_reported, latest_paid, latest_paid_passes, divisor_of, divisor_passes, corrected_ratio, corrected_ratio_passes, growth_questions}
use Rattle.rules.specs.Ladder.{developed, base, development_factor, development_factors, factor_passes, factors_pass, completed, completed_row, completed_all, completed_pass}
use Rattle.rules.specs.Results.{most_entries, section_counts, result_count, square_of, latest_diagonal_of, factors_in, first_tail_average_of, paid_in, levels_in, tails_in, provisions_in, development_in, plain_ratio_in, latest_reported_in, latest_paid_in, divisor_in}
use Rattle.rules.specs.Engine.{development_questions, completion_questions, ratio_questions, correction_questions, completed_ladder_questions, last_questions, later_questions, figure_questions, holds_list, questions, run_answer}
use Rattle.order.proofs.Order.{former_answer}

abbrev changed : List (List ℕ)
changed =
    record_of 1 (given_fields (figures 1 (100 ∷ 1 ∷ []) (pos 0 ∷ pos 10 ∷ pos 10000000 ∷ []) (1000000 ∷ 1000000 ∷ []) (1000000 ∷ 0 ∷ []) 500000 (0 ∷ 0 ∷ []) 0))
    ∷ record_of 1 (given_fields (figures 1 (100 ∷ 100 ∷ []) (pos 0 ∷ pos 10 ∷ pos 0 ∷ []) (1000000 ∷ 1000000 ∷ []) (1000000 ∷ 0 ∷ []) 500000 (0 ∷ 0 ∷ []) 0))
    ∷ record_of 2 (given_fields (figures 2 (100 ∷ 100 ∷ 100 ∷ []) (pos 0 ∷ pos 5000 ∷ pos 999999 ∷ pos 0 ∷ pos 0 ∷ pos 1 ∷ []) (1000000 ∷ 1000000 ∷ 1000000 ∷ []) (1000000 ∷ 0 ∷ 0 ∷ []) 500000 (0 ∷ 0 ∷ 0 ∷ []) 0))
    ∷ record_of 1 (given_fields (figures 1 (100 ∷ 100 ∷ []) (pos 5000 ∷ pos 450000 ∷ pos 1 ∷ []) (1000000 ∷ 1000000 ∷ []) (1000000 ∷ 0 ∷ []) 500000 (0 ∷ 0 ∷ []) 0))
    ∷ record_of 1 (given_fields (figures 1 (100 ∷ 100 ∷ []) (pos 0 ∷ pos 10 ∷ pos 10000 ∷ []) (1000000 ∷ 1000000 ∷ []) (1000000 ∷ 0 ∷ []) 500000 (0 ∷ 0 ∷ []) 1000000001))
    ∷ record_of 1 (given_fields (figures 1 (100 ∷ 100 ∷ []) (pos 0 ∷ pos 10 ∷ pos 10000 ∷ []) (1 ∷ 6 ∷ []) (1000000 ∷ 0 ∷ []) 500000 (0 ∷ 0 ∷ []) 1000000000))
    ∷ record_of 1 (given_fields (figures 1 (100 ∷ 1000000 ∷ []) (pos 0 ∷ pos 10 ∷ pos 10000 ∷ []) (1000000 ∷ 1000000 ∷ []) (1000000 ∷ 0 ∷ []) 500000 (0 ∷ 0 ∷ []) 1000000000))
    ∷ record_of 1 (given_fields (figures 1 (100 ∷ 100 ∷ []) (pos 0 ∷ pos 10 ∷ pos 10000 ∷ []) (1000000 ∷ 1000000 ∷ []) (1000000 ∷ 0 ∷ []) 500000 (0 ∷ 10011 ∷ []) 0))
    ∷ record_of 2 (given_fields (figures 2 (100 ∷ 1000000 ∷ 100 ∷ []) (pos 60 ∷ pos 303000 ∷ pos 0 ∷ pos 6000 ∷ negsuc 4999 ∷ pos 1 ∷ []) (1000000 ∷ 1000000 ∷ 1000000 ∷ []) (1000000 ∷ 0 ∷ 0 ∷ []) 500000 (0 ∷ 0 ∷ 0 ∷ []) 0))
    ∷ record_of 1 (given_fields (figures 1 (100 ∷ 100 ∷ []) (pos 0 ∷ pos 0 ∷ pos 2000000 ∷ []) (1000000 ∷ 1000000 ∷ []) (0 ∷ 1000000 ∷ []) 1000000 (0 ∷ 0 ∷ []) 0))
    ∷ record_of 1 (given_fields (figures 1 (100 ∷ 100 ∷ []) (pos 0 ∷ pos 10 ∷ pos 1000000 ∷ []) (1000000 ∷ 1000000 ∷ []) (0 ∷ 1000000 ∷ []) 1000000 (1000010 ∷ 0 ∷ []) 0))
    ∷ []

pub changed_hold : (map (λ s. former_answer 2027 s most_entries) changed ≡ 7 ∷ 8 ∷ 9 ∷ 10 ∷ 18 ∷ 19 ∷ 11 ∷ 12 ∷ 15 ∷ 16 ∷ 17 ∷ [])
    × (map (λ s. run_answer 2027 s most_entries) changed ≡ replicate 11 13)
unfolding corrects latest_reported latest_paid latest_paid_passes divisor_of divisor_passes corrected_ratio corrected_ratio_passes growth_questions plain_ratio_in latest_reported_in latest_paid_in divisor_in correction_questions total up_to padded every pack unpack number_of bytes_of first_no cells layout kinds_of section widths bit_count byte_count filling_count value_of code_of in_range negative_zero bits_in_range every_field last_year_of codes_of filling_of fields_of record_of exposures_in increments_in indices_in reporting_in weight_in ulae_in tail_in figures_of has_last_year has_length in_ranges shares_sum_of given_fields row_start paid_of sum_to cumulative_of cumulatives_pass evenly nearest average_of average_row averages_of cell_of cells_total column_total diagonal_total corner_total all_total column_of diagonal_of corner_of running_down running_of share_of level_of totals_pass rests_pass running_pass levels_pass separate_answer future_level payment payment_row provision paid_to ultimate ultimates_pass paid_total ulae_total ratio_pass plain_ratio given_cumulative developed base development_factor completed factors_pass completed_pass square_of latest_diagonal_of factors_in section_counts result_count figure_questions holds_list questions run_answer zip_with row_passes future_levels payment_of payments provisions development_factors factor_passes completed_all paid_in levels_in provisions_in development_in opening_questions field_questions separation_questions development_questions completion_questions ratio_questions completed_ladder_questions later_questions last_questions first_tail_average tail_average tail_payment tail_payments first_tail_average_passes tail_averages_pass first_tail_average_of tails_in tail_questions factors_of completed_row
changed_hold = (refl, refl)
