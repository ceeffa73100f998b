-- Document 01's two-year triangle, computed by its rules as they stand here: the record of 38 bytes is accepted and gets the list that the document prints; and the
-- worked record of today, with e_2 = M, is that record without a tail. Assumes nothing.
use Prim.Native.Nat.{ℕ}
use mathlib.Core.Path.{◌≡◌, refl}
use mathlib.Core.List.{List, [], ◌∷◌, zip_with}
use lib.Dec.{lit≤}
use lib.IntN.{ℤ, pos}
use Rattle.rules.specs.Lists.{total, up_to, padded, joined, every}
use Rattle.rules.specs.Packing.{pack, unpack, number_of}
use Rattle.rules.specs.Questions.{first_no}
use Rattle.rules.specs.Record.{million, cells, layout, kinds_of, section, widths, bit_count, byte_count, filling_count, value_of, in_range, negative_zero, bits_in_range, every_field, last_year_of, codes_of, filling_of}
use Rattle.rules.specs.Reading.{has_last_year, has_length, opening_questions}
use Rattle.rules.specs.Triangle.{row_start, paid_of, sum_to, cumulative_of, row_passes, cumulatives_pass, given_cumulative, paid_to, evenly, nearest, average_of, average_row, averages_of, cell_of, cells_total, column_total, diagonal_total, corner_total, all_total}
use Rattle.rules.specs.Separation.{column_of, diagonal_of, corner_of, running_down, running_of, share_of, level_of, totals_pass, rests_pass, running_pass, levels_pass, factors_of, separation_questions}
use Rattle.rules.specs.Completion.{future_level, future_levels, payment_of, payment, payment_row, payments, ultimate, ultimates_pass}
use Rattle.rules.specs.Expense.{paid_total, ulae_total, ratio_pass, plain_ratio, reported_after, not_reported, weighted, reserve_of, reserve}
use Rattle.rules.specs.Growth.{corrects, growth_questions, used_ratio}
use Rattle.rules.specs.Ladder.{developed, base, development_factor, development_factors, factor_passes, factors_pass, completed, completed_row, completed_all, completed_pass}
use Rattle.rules.specs.Results.{separation_sections, completion_sections, reserve_sections, ladder_sections, square_of, latest_diagonal_of, factors_in, paid_in, levels_in, development_in, plain_ratio_in}
use Rattle.rules.specs.Engine.{development_questions, ratio_questions, completed_ladder_questions}
use Rattle.rules.proofs.Worked.{bytes}
use Rattle.no_tail.proofs.Document01.{layout01, widths01, byte_count01, filling_count01, codes_of01, fields_of01, figures_of01, provisions01, result_count01, results_of01, opening_questions01, field_questions01, figure_questions01, run_answer01, Without}

-- hexadecimal 100001000010000000780000000a00000002110c8e0c350030d407a1200000000180000000a0
abbrev pub bytes01 : List ℕ
bytes01 =
    16 ∷ 0 ∷ 1 ∷ 0 ∷ 0 ∷ 16 ∷ 0 ∷ 0 ∷ 0 ∷ 120 ∷ 0 ∷ 0 ∷ 0 ∷ 10 ∷ 0 ∷ 0 ∷ 0 ∷ 2 ∷ 17 ∷ 12 ∷ 142 ∷ 12 ∷ 53 ∷ 0 ∷ 48 ∷ 212 ∷ 7 ∷ 161 ∷ 32 ∷ 0 ∷ 0 ∷ 0 ∷ 1 ∷ 128 ∷ 0 ∷ 0 ∷ 0 ∷ 160 ∷ []

abbrev printed : List ℤ
printed =
    pos 6000 ∷ pos 4000 ∷ pos 6600 ∷ pos 622641509 ∷ pos 377358491 ∷ pos 9636 ∷ pos 10600 ∷ pos 11660 ∷ pos 44 ∷ pos 0 ∷ pos 44 ∷ pos 44 ∷ pos 0 ∷ pos 22 ∷ pos 0 ∷ pos 3 ∷ pos 3 ∷ pos 96385 ∷ pos 1666666 ∷ pos 109 ∷ []

-- accepted in 2026 with room for 20 entries, refused 3 with room for 19, and the list
pub worked_run : (run_answer01 2026 bytes01 20 ≡ 0) × ((run_answer01 2026 bytes01 19 ≡ 3) × (results_of01 2026 (figures_of01 bytes01) ≡ printed))
unfolding total up_to padded every pack unpack number_of first_no cells kinds_of section value_of in_range negative_zero bits_in_range every_field last_year_of has_last_year row_start paid_of sum_to cumulative_of cumulatives_pass evenly nearest average_of average_row averages_of cell_of cells_total column_total diagonal_total corner_total all_total column_of diagonal_of corner_of running_down running_of share_of level_of totals_pass rests_pass running_pass levels_pass factors_of future_level payment payment_row paid_to ultimate ultimates_pass paid_total ulae_total ratio_pass plain_ratio reported_after not_reported weighted reserve given_cumulative developed base development_factor completed completed_row factors_pass completed_pass square_of latest_diagonal_of factors_in joined zip_with row_passes future_levels payment_of payments reserve_of development_factors factor_passes completed_all paid_in levels_in development_in plain_ratio_in corrects growth_questions used_ratio separation_sections completion_sections reserve_sections ladder_sections separation_questions development_questions ratio_questions completed_ladder_questions layout01 widths01 byte_count01 filling_count01 codes_of01 fields_of01 figures_of01 provisions01 result_count01 results_of01 opening_questions01 field_questions01 figure_questions01 run_answer01
worked_run = (refl, (refl, refl))

pub worked_without : Without million bytes01 bytes
unfolding total pack unpack number_of first_no cells kinds_of section last_year_of has_last_year has_length layout widths bit_count byte_count filling_count codes_of filling_of opening_questions layout01 widths01 byte_count01 filling_count01 codes_of01 opening_questions01
worked_without = record {
  opened01 = refl;
  opened = refl;
  least = lit≤ tt;
  most = lit≤ tt;
  years = refl;
  codes = record { years = refl; exposures = refl; increments = refl; indices = refl; reporting = refl; weight = refl; ulae = refl; amount = refl };
}
