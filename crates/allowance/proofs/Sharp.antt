-- That the third demand's limits bite: two records of two years, accepted in 2026, whose entries are further from the exact solution than a smaller limit allows.
-- Assumes nothing.
use Prim.Native.Nat.{ℕ, zero, suc, ◌+◌, ◌-◌, ◌*◌}
use mathlib.Core.Path.{◌≡◌, refl}
use mathlib.Core.Bool.{Bool, false}
use mathlib.Core.List.{[], ◌∷◌}
use lib.Dec.{leb}
use lib.IntN.{ℤ, pos, nat_abs, ◌-ℤ◌, ◌*ℤ◌}
use Rattle.rules.specs.Lists.{total, up_to, padded, joined, every}
use Rattle.rules.specs.Questions.{first_no}
use Rattle.rules.specs.Record.{Figures, cells}
use Rattle.rules.specs.Triangle.{row_start, future_start, paid_of, sum_to, cumulative_of, row_passes, cumulatives_pass, given_cumulative, paid_to, evenly, nearest, average_of, average_row, averages_of, cell_of, cells_total, column_total, diagonal_total, corner_total, all_total}
use Rattle.rules.specs.Separation.{billion, column_of, diagonal_of, corner_of, running_down, running_of, share_of, level_of, totals_pass, rests_pass, running_pass, levels_pass, factors_of, separation_questions}
use Rattle.rules.specs.Tail.{first_tail_average, tail_average, tail_payment, tail_payments, first_tail_average_passes, tail_averages_pass, tail_questions}
use Rattle.rules.specs.Completion.{future_level, future_levels, payment_of, payment, payment_row, payments, provision, provisions, ultimate, ultimates_pass}
use Rattle.rules.specs.Expense.{paid_total, ulae_total, ratio_pass, plain_ratio, reported_after, not_reported, weighted, reserve_of, reserve}
use Rattle.rules.specs.Growth.{corrects, growth_questions, used_ratio}
use Rattle.rules.specs.Ladder.{developed, base, development_factor, development_factors, factor_passes, factors_pass, completed, completed_row, completed_all, completed_pass}
use Rattle.rules.specs.Results.{share_section, payment_section, provision_section, reserve_section, tail_section, section_counts, section_start, separation_sections, completion_sections, reserve_sections, ladder_sections, tail_sections, square_of, latest_diagonal_of, factors_in, first_tail_average_of, paid_in, levels_in, tails_in, provisions_in, development_in, plain_ratio_in, used_ratio_in, sections, results_of}
use Rattle.rules.specs.Engine.{development_questions, completion_questions, ratio_questions, correction_questions, completed_ladder_questions, last_questions, later_questions, figure_questions}
use Rattle.rules.specs.Demand.{entry_of, printed, exact_payment, payment_over, exact_tail, tail_over, exact_provision, provision_over, exact_not_reported, exact_weighted, exact_reserve, reserve_over, payment_allowance, tail_allowance, provision_allowance, reserve_allowance}

-- n 100, 1000; cells 1, 1 / 9,999,999,980; e 5,000,000, 4,999,999; 1 still to be paid: share 1 is printed as 2 billionths and is just above 1, the payment as 90 and is 50,
-- the tail payment of row 1 as 0 and is 9.999998
abbrev high : Figures
high = record { k = 1; exposures = 100 ∷ 1000 ∷ []; increments = pos 1 ∷ pos 1 ∷ pos 9999999980 ∷ []; indices = 5000000 ∷ 4999999 ∷ []; reporting = 0 ∷ 1000000 ∷ []; weight = 0; ulae = 0 ∷ 0 ∷ []; tail = 1 }

-- n 1, 1; cells 1,000,000, 2 / 2; e 999,999, 999,998; b 1, 999,999; w 999,999; U 0, 1,000,003; 1 still to be paid: the payment is printed as 1 and is 1.999998, the tail
-- payment of row 1 as 0 and is 0.999998, and its reserve as 0 and is 4.99998
abbrev low : Figures
low = record { k = 1; exposures = 1 ∷ 1 ∷ []; increments = pos 1000000 ∷ pos 2 ∷ pos 2 ∷ []; indices = 999999 ∷ 999998 ∷ []; reporting = 1 ∷ 999999 ∷ []; weight = 999999; ulae = 0 ∷ 1000003 ∷ []; tail = 1 }

-- the exact shares of two years, over d_1: the average of cell 0, 1 has share 1
abbrev exact_shares : Figures → ℕ → ℤ
exact_shares f zero = pos (latest_diagonal_of f) -ℤ cell_of (square_of f) 0 1
exact_shares f (suc j) = cell_of (square_of f) 0 1

-- whether entry j of section i, with z / over unrounded, is within an allowance in hundredths
abbrev within : Figures → ℕ → ℕ → ℤ → ℕ → ℕ → Bool
within f i j z over allowance = leb (100 * nat_abs (pos (printed 1 (results_of 2026 f) i j * over) -ℤ z)) (allowance * over)

-- both are accepted; share 1 is as far away as the demand lets it be; and of the allowances a payment's with k − j for k − j + 1, a payment's without its 1, a
-- tail payment's without its n_i / 100 and without its 1, a provision's without its tail payment's, and a reserve's with 2 for 3 are too small
pub limits-bite :
    (first_no (figure_questions 2026 high) ∷ first_no (figure_questions 2026 low) ∷ [] ≡ 0 ∷ 0 ∷ [])
    × ((nat_abs ((pos billion *ℤ exact_shares high 1) -ℤ pos (printed 1 (results_of 2026 high) share_section 1 * latest_diagonal_of high)) + 1 ≡ latest_diagonal_of high)
    × (within high payment_section 0 (exact_payment high (latest_diagonal_of high) (exact_shares high) 1 1) (payment_over (latest_diagonal_of high)) (payment_allowance high 1 1 - 1000 * 5)
    ∷ within low payment_section 0 (exact_payment low (latest_diagonal_of low) (exact_shares low) 1 1) (payment_over (latest_diagonal_of low)) (payment_allowance low 1 1 - 100)
    ∷ within high tail_section 1 (pos (exact_tail high 1)) (tail_over high) (tail_allowance high 1 - 1000)
    ∷ within low tail_section 1 (pos (exact_tail low 1)) (tail_over low) (tail_allowance low 1 - 100)
    ∷ within low provision_section 1 (exact_provision low (latest_diagonal_of low) (latest_diagonal_of low) (exact_shares low) 1) (provision_over low (latest_diagonal_of low)) (provision_allowance low 1 - tail_allowance low 1)
    ∷ within low reserve_section 1 (exact_reserve low (latest_diagonal_of low) (latest_diagonal_of low) (exact_shares low) (used_ratio_in 2026 low) 1) (reserve_over low (latest_diagonal_of low)) (reserve_allowance low 1 - 100)
    ∷ [] ≡ false ∷ false ∷ false ∷ false ∷ false ∷ false ∷ []))
unfolding first_no figure_questions development_questions later_questions last_questions completion_questions ratio_questions completed_ladder_questions separation_questions total up_to padded joined every cells row_start future_start paid_of sum_to cumulative_of row_passes cumulatives_pass given_cumulative paid_to evenly nearest average_of average_row averages_of cell_of cells_total column_total diagonal_total corner_total all_total column_of diagonal_of corner_of running_down running_of share_of level_of totals_pass rests_pass running_pass levels_pass factors_of future_level future_levels payment_of payment payment_row payments provision provisions ultimate ultimates_pass paid_total ulae_total ratio_pass plain_ratio reported_after not_reported weighted reserve_of reserve developed base development_factor development_factors factor_passes factors_pass completed completed_row completed_all completed_pass section_counts section_start separation_sections completion_sections reserve_sections ladder_sections square_of latest_diagonal_of factors_in paid_in levels_in provisions_in development_in plain_ratio_in used_ratio_in corrects growth_questions used_ratio correction_questions sections results_of entry_of printed exact_payment exact_provision exact_not_reported exact_weighted exact_reserve exact_tail payment_allowance tail_allowance provision_allowance reserve_allowance tail_questions first_tail_average tail_average tail_payment tail_payments first_tail_average_passes tail_averages_pass tail_sections first_tail_average_of tails_in
limits-bite = (refl, (refl, refl))
