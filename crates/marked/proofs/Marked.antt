-- The marked triangles and edges of document 01, with what requests 1, 3, 4 and 6 of document 02 mark: one or more rows for each starred item, what the rules give and
-- what the paper prints, and one theorem. A marked triangle is of valuation year 2026, has nothing still to be paid after year k, and e_{k+1} = M. The second row
-- of averages, the rows with an amount still to be paid or a later year, and those after them but for document 01's k = 2 case are ours. The worked calls of requests 5,
-- 11 and 12 stand in Calls, Histories and Hindsights, and `starred_hold` says that all four tables hold.
-- Assumes nothing.
use Prim.Native.Nat.{ℕ}
use mathlib.Core.Path.{◌≡◌, refl}
use mathlib.Core.Bool.{true}
use mathlib.Core.List.{List, [], ◌∷◌, ◌++◌, map, zip_with}
use lib.Dec.{ltb}
use lib.IntN.{ℤ, pos, negsuc}
use lib.ListN.{get_or, take, drop, replicate}
use Rattle.marked.proofs.Calls.{call_table, calls_hold}
use Rattle.marked.proofs.Histories.{history_table, histories_hold}
use Rattle.marked.proofs.Hindsights.{hindsight_table, hindsights_hold}
use Rattle.rules.specs.Lists.{total, up_to, padded, joined, every}
use Rattle.rules.specs.Packing.{pack, unpack, number_of, bytes_of}
use Rattle.rules.specs.Questions.{first_no, after_call}
use Rattle.rules.specs.Record.{figures, cells, layout, kinds_of, section, widths, bit_count, byte_count, filling_count, value_of, code_of, in_range, negative_zero, bits_in_range, every_field, last_year_of, codes_of, filling_of, fields_of, record_of, exposures_in, increments_in, indices_in, reporting_in, weight_in, ulae_in, tail_in, figures_of}
use Rattle.rules.specs.Reading.{has_last_year, has_length, in_ranges, shares_sum_of, opening_questions, field_questions}
use Rattle.rules.specs.Writing.{given_fields}
use Rattle.rules.specs.Triangle.{row_start, paid_of, sum_to, cumulative_of, row_passes, cumulatives_pass, given_cumulative, paid_to, evenly, nearest, average_of, average_row, averages_of, cell_of, cells_total, column_total, diagonal_total, corner_total, all_total}
use Rattle.rules.specs.Separation.{billion, column_of, diagonal_of, corner_of, running_down, running_of, share_of, level_of, totals_pass, rests_pass, running_pass, levels_pass, factors_of, separation_questions, separate_answer, separated}
use Rattle.rules.specs.Tail.{first_tail_average, tail_average, tail_payment, tail_payments, first_tail_average_passes, tail_averages_pass, tail_questions}
use Rattle.rules.specs.Completion.{future_level, future_levels, payment_of, payment, payment_row, payments, provision, provisions, ultimate, ultimates_pass}
use Rattle.rules.specs.Expense.{paid_total, ulae_total, ratio_pass, plain_ratio, reported_after, not_reported, weighted, reserve_of, reserve}
use Rattle.rules.specs.Growth.{corrects, latest_reported, latest_paid, latest_paid_passes, divisor_of, divisor_passes, corrected_ratio, corrected_ratio_passes, growth_questions, used_ratio}
use Rattle.rules.specs.Ladder.{developed, base, development_factor, development_factors, factor_passes, factors_pass, completed, completed_row, completed_all, completed_pass}
use Rattle.rules.specs.Results.{reserve_section, ratio_section, most_entries, section_counts, result_count, section_start, separation_sections, completion_sections, reserve_sections, ladder_sections, tail_sections, square_of, latest_diagonal_of, factors_in, first_tail_average_of, paid_in, levels_in, tails_in, provisions_in, development_in, plain_ratio_in, latest_reported_in, latest_paid_in, divisor_in, used_ratio_in, sections, results_of}
use Rattle.rules.specs.Engine.{development_questions, completion_questions, ratio_questions, correction_questions, completed_ladder_questions, last_questions, later_questions, figure_questions, holds_list, questions, run_answer, run_into}

-- the record of two years with these exposures, cells, indices, ULAE totals and amount still to be paid; b 800,000, 200,000; w 500,000
abbrev two_years : List ℕ → List ℤ → List ℕ → List ℕ → ℕ → List ℕ
two_years n p e u a = record_of 1 (given_fields (figures 1 n p e (800000 ∷ 200000 ∷ []) 500000 u a))

-- the answer to such a record in a valuation year, with a buffer of 22 entries, and what the buffer, full of −7 before, holds then
abbrev answer_in : ℕ → List ℕ → ℤ
answer_in year s = pos (run_answer year s 22)

abbrev list_in : ℕ → List ℕ → List ℤ
list_in year s = run_into year s (replicate 22 (negsuc 6))

-- in 2026
abbrev answer_to : List ℕ → ℤ
answer_to s = answer_in 2026 s

abbrev list_of : List ℕ → List ℤ
list_of s = list_in 2026 s

-- document 01's records of two years: n 1, 1; e 1,100,000 and M; nothing still to be paid
abbrev marked : List ℤ → List ℕ → List ℕ
marked p u = two_years (1 ∷ 1 ∷ []) p (1100000 ∷ 1000000 ∷ []) u 0

abbrev answer : List ℤ → List ℕ → ℤ
answer p u = answer_to (marked p u)

abbrev list : List ℤ → List ℕ → List ℤ
list p u = list_of (marked p u)

-- document 01's two-year cells with an amount still to be paid for year 0, and the index e_2
abbrev tailed : ℕ → ℕ → List ℕ
tailed a e = two_years (1 ∷ 1 ∷ []) (pos 60 ∷ pos 40 ∷ pos 66 ∷ []) (1100000 ∷ e ∷ []) (6 ∷ 10 ∷ []) a

-- n and 10^6 claims, cells 60000, 40000 / 66000000, 10^10 still to be paid, e 1, 5,000,000
abbrev steep_tail : ℕ → List ℕ
steep_tail n = two_years (n ∷ 1000000 ∷ []) (pos 60000 ∷ pos 40000 ∷ pos 66000000 ∷ []) (1 ∷ 5000000 ∷ []) (6 ∷ 10 ∷ []) 10000000000

-- t_0 = S and the index e_1 beside 5,000,000: t_1 = 5 × S for 1,000,000
abbrev edge_tail : ℕ → List ℕ
edge_tail e = two_years (1000 ∷ 1 ∷ []) (pos 60000 ∷ pos 40000 ∷ pos 66 ∷ []) (e ∷ 5000000 ∷ []) (6 ∷ 10 ∷ []) 10000000000

-- the reporting shares 0, M and the weight M, with these cells and ULAE totals
abbrev reported_late : List ℤ → List ℕ → List ℕ
reported_late p u = record_of 1 (given_fields (figures 1 (1 ∷ 1 ∷ []) p (1100000 ∷ 1000000 ∷ []) (0 ∷ 1000000 ∷ []) 1000000 u 0))

-- the record of three years with these exposures and cells
abbrev three_years : List ℕ → List ℤ → List ℕ
three_years n p = record_of 2 (given_fields (figures 2 n p (1000000 ∷ 1000000 ∷ 1000000 ∷ []) (800000 ∷ 100000 ∷ 100000 ∷ []) 500000 (0 ∷ 0 ∷ 1 ∷ []) 0))

-- n 1, 100, 1, cells 0, 1, 0 / 50, −40 / the last cell: 1 has Y = −39, 41 has 1
abbrev falling_back : ℕ → List ℕ
falling_back p = three_years (1 ∷ 100 ∷ 1 ∷ []) (pos 0 ∷ pos 1 ∷ pos 0 ∷ pos 50 ∷ negsuc 39 ∷ pos p ∷ [])

-- n 1000, 100, 1,000,000, cells 0, 1, −1 / 50, 1 / 0: Y = 0
abbrev nothing_paid : List ℕ
nothing_paid = three_years (1000 ∷ 100 ∷ 1000000 ∷ []) (pos 0 ∷ pos 1 ∷ negsuc 0 ∷ pos 50 ∷ pos 1 ∷ pos 0 ∷ [])

-- n 100, 1,000,000, 1, cells 0, 0, 0 / 50, −40 / 39: Y = −1, and nothing paid for year 0, so that the chain ladder's B of development year 1 is 0
abbrev empty_first_year : List ℕ
empty_first_year = three_years (100 ∷ 1000000 ∷ 1 ∷ []) (pos 0 ∷ pos 0 ∷ pos 0 ∷ pos 50 ∷ negsuc 39 ∷ pos 39 ∷ [])

-- document 01's case with k = 2: n 100 each, cells 0, 5000, 999999 / 0, 0 / 1; the chain ladder's B of development year 0 is 0
abbrev steep_exposures : List ℕ
steep_exposures = 100 ∷ 100 ∷ 100 ∷ []

abbrev steep_cells : List ℤ
steep_cells = pos 0 ∷ pos 5000 ∷ pos 999999 ∷ pos 0 ∷ pos 0 ∷ pos 1 ∷ []

abbrev steep : List ℕ
steep = three_years steep_exposures steep_cells

-- n 1, 10^6, cells 1, 49 / 10^10 and these ULAE totals: m_0 = 50 × M, and C of year 1 is 5 × 10^11
abbrev steep_ladder : List ℕ → List ℕ
steep_ladder u = two_years (1 ∷ 1000000 ∷ []) (pos 1 ∷ pos 49 ∷ pos 10000000000 ∷ []) (1100000 ∷ 1000000 ∷ []) u 0

-- n 1 each and these cells, which have no exact solution, many, or one of the wrong kind (solutions/proofs/Examples.antt)
abbrev unsolved : List ℤ → List ℕ
unsolved p = three_years (1 ∷ 1 ∷ 1 ∷ []) p

-- the answers of 2026 and 2027
abbrev both_years : List ℕ → List ℤ
both_years s = map (λ year. pos (run_answer year s most_entries)) (2026 ∷ 2027 ∷ [])

-- the averages of the motor account of document 004, in tenths, every exposure 1
abbrev motor : List (List ℤ)
motor =
    averages_of 3 (1 ∷ 1 ∷ 1 ∷ 1 ∷ []) (
    pos 504 ∷ pos 282 ∷ pos 90 ∷ pos 48 ∷ pos 580 ∷ pos 292 ∷ pos 97 ∷ pos 595 ∷ pos 332 ∷ pos 662 ∷ []
    )

abbrev pub marked_table : List (List ℤ × List ℤ)
marked_table = (
  list (pos 60 ∷ pos 40 ∷ pos 66 ∷ []) (6 ∷ 10 ∷ []),
  pos 6000 ∷ pos 4000 ∷ pos 6600 ∷ pos 622641509 ∷ pos 377358491 ∷ pos 9636 ∷ pos 10600 ∷ pos 11660 ∷ pos 44 ∷ pos 0 ∷ pos 44 ∷ pos 44 ∷ pos 0 ∷ pos 22 ∷ pos 0 ∷ pos 3 ∷ pos 3 ∷ pos 96385 ∷ pos 1666666 ∷ pos 109 ∷ pos 0 ∷ pos 0 ∷ [],
)
    ∷ (pos (separate_answer motor 3) ∷ [], pos 0 ∷ [])
    ∷ (map pos (take 4 (separated motor 3).shares), pos 583475514 ∷ pos 287767456 ∷ pos 86614799 ∷ pos 42142231 ∷ [])
    ∷ (map pos (take 4 (separated motor 3).levels), pos 86378 ∷ pos 98939 ∷ pos 101998 ∷ pos 113900 ∷ [])
    ∷ (
      average_of (pos 1) 8 ∷ average_of (negsuc 0) 8 ∷ average_of (pos 1) 3 ∷ average_of (pos 1) 200 ∷ average_of (pos 1) 201 ∷ [],
      pos 12 ∷ negsuc 11 ∷ pos 33 ∷ pos 0 ∷ pos 0 ∷ [],
    )
    ∷ (
      average_of (pos 3) 8 ∷ average_of (negsuc 2) 8 ∷ average_of (pos 5) 8 ∷ average_of (pos 3) 200 ∷ average_of (negsuc 0) 200 ∷ [],
      pos 38 ∷ negsuc 37 ∷ pos 62 ∷ pos 2 ∷ pos 0 ∷ [],
    )
    ∷ (answer (pos 60 ∷ pos 40 ∷ pos 0 ∷ []) (6 ∷ 10 ∷ []) ∷ list (pos 60 ∷ pos 40 ∷ pos 0 ∷ []) (6 ∷ 10 ∷ []), pos 8 ∷ replicate 22 (negsuc 6))
    ∷ (answer (pos 0 ∷ pos 40 ∷ pos 66 ∷ []) (6 ∷ 10 ∷ []) ∷ [], pos 13 ∷ [])
    ∷ (answer (pos 60 ∷ pos 40 ∷ pos 66 ∷ []) (6 ∷ 161 ∷ []) ∷ [], pos 12 ∷ [])
    ∷ (
      answer (pos 60 ∷ pos 40 ∷ pos 66 ∷ []) (6 ∷ 160 ∷ []) ∷ get_or (list (pos 60 ∷ pos 40 ∷ pos 66 ∷ []) (6 ∷ 160 ∷ [])) (section_start 1 ratio_section) (pos 0) ∷ [],
      pos 0 ∷ pos 1000000 ∷ [],
    )
    ∷ (
      list_of (tailed 100 1210000),
      pos 6000 ∷ pos 4000 ∷ pos 6600 ∷ pos 622641509 ∷ pos 377358491 ∷ pos 9636 ∷ pos 10600 ∷ pos 11660 ∷ pos 44 ∷ pos 100 ∷ pos 154 ∷ pos 254 ∷ pos 0 ∷ pos 44 ∷ pos 4 ∷ pos 9 ∷ pos 13 ∷ pos 96385 ∷ pos 1666666 ∷ pos 109 ∷ pos 100 ∷ pos 110 ∷ [],
    )
    ∷ (
      pos (tail_average 10000 (1100000 ∷ 1210000 ∷ []) 0) ∷ pos (tail_average 10000 (1100000 ∷ 1210000 ∷ []) 1) ∷ drop 20 (list_of (tailed 10 1200000)),
      pos 10000 ∷ pos 11000 ∷ pos 10 ∷ pos 10 ∷ [],
    )
    ∷ (answer_to (steep_tail 1000) ∷ answer_to (steep_tail 999) ∷ [], pos 19 ∷ pos 18 ∷ [])
    ∷ (answer_to (edge_tail 1000000) ∷ answer_to (edge_tail 999999) ∷ [], pos 0 ∷ pos 19 ∷ [])
    ∷ (
      map pos (first_tail_average 1 (8 ∷ []) ∷ first_tail_average 3 (8 ∷ []) ∷ first_tail_average 1 (200 ∷ []) ∷ up_to (tail_average 10001 (3 ∷ 7 ∷ 5 ∷ [])) 3),
      pos 12 ∷ pos 38 ∷ pos 0 ∷ pos 10001 ∷ pos 23335 ∷ pos 16668 ∷ [],
    )
    ∷ (
      list_in 2027 (tailed 0 1000000),
      pos 6000 ∷ pos 4000 ∷ pos 6600 ∷ pos 622641509 ∷ pos 377358491 ∷ pos 9636 ∷ pos 10600 ∷ pos 11660 ∷ pos 44 ∷ pos 0 ∷ pos 44 ∷ pos 44 ∷ pos 0 ∷ pos 22 ∷ pos 0 ∷ pos 3 ∷ pos 3 ∷ pos 95484 ∷ pos 1666666 ∷ pos 109 ∷ pos 0 ∷ pos 0 ∷ [],
    )
    ∷ (
      pos (latest_reported_in (figures_of (tailed 0 1000000))) ∷ latest_paid_in (figures_of (tailed 0 1000000)) ∷ pos (divisor_in (figures_of (tailed 0 1000000))) ∷ pos (plain_ratio_in (figures_of (tailed 0 1000000))) ∷ [],
      pos 108 ∷ pos 106 ∷ pos 1009433 ∷ pos 96385 ∷ [],
    )
    ∷ (
      take 4 (drop (section_start 1 reserve_section) (list_in 2027 (tailed 100 1210000))),
      pos 3 ∷ pos 6 ∷ pos 9 ∷ pos 63458 ∷ [],
    )
    ∷ (map (λ year. get_or (list_in year (tailed 0 1000000)) (section_start 1 ratio_section) (pos 0)) (0 ∷ 2026 ∷ 2027 ∷ 2028 ∷ 18446744073709551615 ∷ []), pos 96385 ∷ pos 96385 ∷ pos 95484 ∷ pos 95484 ∷ pos 95484 ∷ [])
    ∷ (
      pos (latest_reported_in (figures_of (marked (pos 60 ∷ pos 41 ∷ pos 66 ∷ []) (6 ∷ 10 ∷ []))))
          ∷ pos (divisor_in (figures_of (marked (pos 60 ∷ pos 41 ∷ pos 66 ∷ []) (6 ∷ 10 ∷ []))))
          ∷ pos (used_ratio_in 2027 (figures_of (marked (pos 60 ∷ pos 41 ∷ pos 66 ∷ []) (6 ∷ 10 ∷ []))))
          ∷ [],
      pos 109 ∷ pos 1009345 ∷ pos 94920 ∷ [],
    )
    ∷ (both_years (falling_back 1) ++ (both_years nothing_paid ++ both_years (falling_back 41)), pos 0 ∷ pos 15 ∷ pos 0 ∷ pos 15 ∷ pos 0 ∷ pos 0 ∷ [])
    ∷ (both_years (reported_late (pos 1 ∷ pos 0 ∷ pos 2000000 ∷ []) (6 ∷ 10 ∷ [])), pos 0 ∷ pos 16 ∷ [])
    ∷ (both_years (reported_late (pos 60 ∷ pos 40 ∷ pos 66 ∷ []) (66 ∷ 100 ∷ [])), pos 0 ∷ pos 17 ∷ [])
    ∷ (
      both_years (reported_late (pos 60 ∷ pos 40 ∷ pos 85 ∷ []) (48 ∷ 100 ∷ [])) ++ both_years (reported_late (pos 60 ∷ pos 40 ∷ pos 85 ∷ []) (48 ∷ 101 ∷ [])),
      pos 0 ∷ pos 0 ∷ pos 0 ∷ pos 17 ∷ [],
    )
    ∷ (
      both_years empty_first_year
          ++ (both_years (reported_late (pos 0 ∷ pos 0 ∷ pos 66 ∷ []) (6 ∷ 10 ∷ []))
          ++ (both_years (reported_late (pos 0 ∷ pos 40 ∷ pos 66 ∷ []) (40 ∷ 60 ∷ [])) ++ both_years (reported_late (pos 0 ∷ pos 40 ∷ pos 66 ∷ []) (40 ∷ 67 ∷ [])))),
      replicate 8 (pos 13),
    )
    ∷ (
      answer (pos 0 ∷ negsuc 0 ∷ pos 66 ∷ []) (6 ∷ 10 ∷ []) ∷ answer (pos 0 ∷ pos 10000000000 ∷ pos 66 ∷ []) (6 ∷ 10 ∷ []) ∷ both_years steep,
      pos 6 ∷ pos 13 ∷ pos 13 ∷ pos 13 ∷ [],
    )
    ∷ (answer (pos 1 ∷ pos 49 ∷ pos 66 ∷ []) (6 ∷ 10 ∷ []) ∷ answer (pos 1 ∷ pos 50 ∷ pos 66 ∷ []) (6 ∷ 10 ∷ []) ∷ [], pos 0 ∷ pos 13 ∷ [])
    ∷ (
      answer (pos 60 ∷ pos 80 ∷ pos 120 ∷ []) (6 ∷ 10 ∷ []) ∷ take 7 (list (pos 60 ∷ pos 80 ∷ pos 120 ∷ []) (6 ∷ 10 ∷ [])),
      pos 0 ∷ pos 6000 ∷ pos 8000 ∷ pos 12000 ∷ pos 600000000 ∷ pos 400000000 ∷ pos 10000 ∷ pos 20000 ∷ [],
    )
    ∷ (
      both_years (unsolved (pos 1 ∷ pos 0 ∷ pos 0 ∷ pos 0 ∷ pos 1 ∷ pos 0 ∷ []))
          ++ (both_years (unsolved (pos 1 ∷ pos 0 ∷ pos 0 ∷ pos 0 ∷ pos 0 ∷ pos 0 ∷ [])) ++ both_years (unsolved (pos 0 ∷ pos 1 ∷ pos 2 ∷ pos 1 ∷ negsuc 0 ∷ pos 0 ∷ []))),
      replicate 6 (pos 8),
    )
    ∷ (answer_to (steep_ladder (6 ∷ 10 ∷ [])) ∷ answer_to (steep_ladder (10000000000 ∷ 10000000000 ∷ [])) ∷ [], pos 14 ∷ pos 12 ∷ [])
    ∷ []

-- the rules give what is printed, in every row
pub marked_hold : map (λ row. row.0) marked_table ≡ map (λ row. row.1) marked_table
unfolding corrects latest_reported latest_paid latest_paid_passes divisor_of divisor_passes corrected_ratio corrected_ratio_passes growth_questions used_ratio plain_ratio_in latest_reported_in latest_paid_in divisor_in correction_questions total up_to padded every pack unpack number_of bytes_of first_no after_call cells layout kinds_of section widths bit_count byte_count filling_count value_of code_of in_range negative_zero bits_in_range every_field last_year_of codes_of filling_of fields_of record_of exposures_in increments_in indices_in reporting_in weight_in ulae_in tail_in figures_of has_last_year has_length in_ranges shares_sum_of given_fields row_start paid_of sum_to cumulative_of cumulatives_pass evenly nearest average_of average_row averages_of cell_of cells_total column_total diagonal_total corner_total all_total column_of diagonal_of corner_of running_down running_of share_of level_of totals_pass rests_pass running_pass levels_pass factors_of separate_answer separated future_level payment payment_row provision paid_to ultimate ultimates_pass paid_total ulae_total ratio_pass plain_ratio reported_after not_reported weighted reserve given_cumulative developed base development_factor completed completed_row factors_pass completed_pass square_of latest_diagonal_of factors_in joined sections results_of section_counts result_count figure_questions holds_list questions run_answer run_into zip_with row_passes future_levels payment_of payments provisions reserve_of development_factors factor_passes completed_all paid_in levels_in provisions_in development_in used_ratio_in separation_sections completion_sections reserve_sections ladder_sections opening_questions field_questions separation_questions development_questions completion_questions ratio_questions completed_ladder_questions section_start later_questions last_questions first_tail_average tail_average tail_payment tail_payments first_tail_average_passes tail_averages_pass tail_sections first_tail_average_of tails_in tail_questions
marked_hold = refl

-- all that is marked, with the calls for indices, for histories and for hindsight runs
pub starred_hold : (map (λ row. row.0) marked_table ≡ map (λ row. row.1) marked_table)
    × ((map (λ row. row.0) call_table ≡ map (λ row. row.1) call_table)
    × ((map (λ row. row.0) history_table ≡ map (λ row. row.1) history_table) × (map (λ row. row.0) hindsight_table ≡ map (λ row. row.1) hindsight_table)))
starred_hold = (marked_hold, (calls_hold, (histories_hold, hindsights_hold)))

-- the square of document 01's case with k = 2
abbrev steep_square : List (List ℤ)
steep_square = averages_of 2 steep_exposures steep_cells

-- of its separation alone: A_1 = 1000 and A_0 = 0, so it is refused 9, though l_1 would be too large too
pub steep_refused : (running_of steep_square 2 1 ≡ 1000)
    × ((running_of steep_square 2 0 ≡ 0) × ((separate_answer steep_square 2 ≡ 9) × (ltb billion (level_of steep_square 2 1) ≡ true)))
unfolding total up_to padded every first_no row_start paid_of sum_to evenly nearest average_of average_row averages_of cell_of cells_total column_total diagonal_total corner_total all_total column_of diagonal_of corner_of running_down running_of share_of level_of totals_pass rests_pass running_pass levels_pass separation_questions separate_answer
steep_refused = (refl, (refl, (refl, refl)))

-- the lengths of the result list that request 3 of document 02 gives: document 01's 20 and 489, and k + 1 tail payments
pub result_counts : (result_count 1 ≡ 22) × (result_count 15 ≡ most_entries)
unfolding result_count section_counts total cells
result_counts = (refl, refl)
