-- The report's figures of the years 0 to k in one array: the result list, the record's fields, and what is worked out from them, each section from those before it. Assumes nothing.
use Rattle.std.specs.Prelude.{ℕ, ◌+◌, ◌*◌, List, map, ℤ, pos, take, replicate}
use Rattle.std.proofs.lemmas.List.Edits.{sets}
use Rattle.rules.specs.Record.{cells}
use Rattle.rules.specs.Results.{average_section, share_section, level_section, payment_section, provision_section, completed_section, tail_section, result_count, section_start}
use Rattle.vectors.specs.Vectors.{most_figures, sums, differences, running}
use Rattle.row_figures.specs.RowFigures.{row_sums, rows_running}
use Rattle.future_figures.specs.FutureFigures.{ladder_ultimates, expected}
use Rattle.fitted_figures.specs.FittedFigures.{fitted}
use Rattle.allowance_figures.specs.Allowances.{allowances}
use Rattle.figure_places.specs.Places.{added_at}

-- the result list and the fields: exposures n, increments p, indices e, reporting shares b, ULAE totals u
unfoldable pub result_figures : ℕ → List ℤ → List ℤ
result_figures k list = sets (replicate most_figures (pos 0)) 0 (take (result_count k) list)

unfoldable pub triangle_figures : ℕ → List ℤ → List ℕ → List ℤ → List ℤ
triangle_figures k list n p =
    sets (sets (result_figures k list) (added_at k).exposures (map pos (take (k + 1) n))) (added_at k).increments (take (cells k) p)

unfoldable pub with_assumptions : ℕ → List ℕ → List ℕ → List ℕ → List ℤ → List ℤ
with_assumptions k e b u xs =
    sets (sets (sets xs (added_at k).indices (map pos (take (k + 1) e))) (added_at k).reporting (map pos (take (k + 1) b))) (added_at k).ulae (map pos (take (k + 1) u))

unfoldable pub given_figures : ℕ → List ℤ → List ℕ → List ℤ → List ℕ → List ℕ → List ℕ → List ℤ
given_figures k list n p e b u = with_assumptions k e b u (triangle_figures k list n p)

-- the given cumulatives, and what is paid by origin year
unfoldable pub with_cumulatives : ℕ → List ℤ → List ℤ
with_cumulatives k xs = sets xs (added_at k).cumulatives (rows_running k (added_at k).increments xs)

unfoldable pub with_paid : ℕ → List ℤ → List ℤ
with_paid k xs = sets xs (added_at k).paid (row_sums k (added_at k).increments xs)

-- the running shares
unfoldable pub with_running : ℕ → List ℤ → List ℤ
with_running k xs = sets xs (added_at k).running (running (section_start k share_section) (k + 1) xs)

-- the change of each level after the first on the year before, the future levels right after the levels found
unfoldable pub with_changes : ℕ → List ℤ → List ℤ
with_changes k xs = sets xs (added_at k).changes (differences (section_start k level_section + 1) (section_start k level_section) (2 * k) xs)

-- the payments expected in the years after year k
unfoldable pub with_expected : ℕ → List ℤ → List ℤ
with_expected k xs = sets xs (added_at k).expected (expected k (section_start k payment_section) (section_start k tail_section) xs)

-- share times level
unfoldable pub with_fitted : ℕ → List ℤ → List ℤ
with_fitted k xs = sets xs (added_at k).fitted (fitted k (section_start k share_section) (section_start k level_section) xs)

-- how near provisions, and ULAE reserves, are proved to be
unfoldable pub with_allowances : ℕ → List ℤ → List ℤ
with_allowances k xs = sets xs (added_at k).allowances (allowances 0 k (added_at k).exposures xs)

unfoldable pub with_margins : ℕ → List ℤ → List ℤ
with_margins k xs = sets xs (added_at k).margins (allowances 300 k (added_at k).exposures xs)

-- the chain ladder's ultimates
unfoldable pub with_ladder : ℕ → List ℤ → List ℤ
with_ladder k xs = sets xs (added_at k).ladder (ladder_ultimates k (added_at k).paid (section_start k completed_section) xs)

-- the chain ladder's provisions: its ultimates less what is paid
unfoldable pub with_remaining : ℕ → List ℤ → List ℤ
with_remaining k xs = sets xs (added_at k).remaining (differences (added_at k).ladder (added_at k).paid (k + 1) xs)

-- the ultimates: what is paid and the provision
unfoldable pub with_ultimates : ℕ → List ℤ → List ℤ
with_ultimates k xs = sets xs (added_at k).ultimates (sums (added_at k).paid (section_start k provision_section) (k + 1) xs)

-- observed less fitted
unfoldable pub with_gaps : ℕ → List ℤ → List ℤ
with_gaps k xs = sets xs (added_at k).gaps (differences (section_start k average_section) (added_at k).fitted (cells k) xs)

-- the ultimates less the chain ladder's, which is the provisions less the chain ladder's
unfoldable pub with_differences : ℕ → List ℤ → List ℤ
with_differences k xs = sets xs (added_at k).differences (differences (added_at k).ultimates (added_at k).ladder (k + 1) xs)

-- the sums of observed less fitted by origin year
unfoldable pub with_gap_sums : ℕ → List ℤ → List ℤ
with_gap_sums k xs = sets xs (added_at k).sums (row_sums k (added_at k).gaps xs)

-- one after another
unfoldable pub worked_triangles : ℕ → List ℤ → List ℤ
worked_triangles k xs = with_changes k (with_running k (with_paid k (with_cumulatives k xs)))

unfoldable pub worked_figures : ℕ → List ℤ → List ℤ
worked_figures k xs = with_ladder k (with_margins k (with_allowances k (with_fitted k (with_expected k xs))))

unfoldable pub combined_figures : ℕ → List ℤ → List ℤ
combined_figures k xs = with_gap_sums k (with_differences k (with_gaps k (with_ultimates k (with_remaining k xs))))

-- all figures
unfoldable pub shown_figures : ℕ → List ℤ → List ℕ → List ℤ → List ℕ → List ℕ → List ℕ → List ℤ
shown_figures k list n p e b u = combined_figures k (worked_figures k (worked_triangles k (given_figures k list n p e b u)))
