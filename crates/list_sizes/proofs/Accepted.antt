-- How large the entries of the list are that an accepted run fills: all of them, its shares and its levels. Assumes nothing.
use Prim.Native.Nat.{ℕ, ◌+◌, ◌≤◌, ◌<◌}
use native.Mathlib.Omega.{arith}
use borrow.Author.Tests.{leb-true}
use mathlib.Core.Path.{◌≡◌, refl}
use mathlib.Core.Bool.{true, cond}
use mathlib.Core.List.{List, ◌++◌}
use lib.Dec.{leb}
use lib.IntN.{ℤ, pos, nat_abs}
use lib.ListN.{length, get_or, drop, replicate, get_or-append}
use Rattle.rules.specs.Packing.{Fit}
use Rattle.rules.specs.Lists.{every}
use Rattle.rules.specs.Record.{figures_of, million}
use Rattle.rules.specs.Separation.{billion, level_of, levels_pass, separation_questions}
use Rattle.rules.specs.Tail.{tail_questions}
use Rattle.rules.specs.Expense.{paid_total, ulae_total}
use Rattle.rules.specs.Growth.{corrects, corrected_ratio, corrected_ratio_passes, growth_questions}
use Rattle.rules.specs.Results.{share_section, level_section, most_entries, result_count, section_start, square_of, plain_ratio_in, divisor_in, used_ratio_in, results_of}
use Rattle.rules.specs.Demand.{entry_of, printed}
use Rattle.rules.specs.Engine.{development_passes, development_questions, completion_questions, ratio_questions, correction_questions, completed_ladder_questions, last_questions, later_questions, figure_questions, run_answer}
use Rattle.laws.proofs.Lists.{every_up_to}
use Rattle.laws.proofs.Questions.{yes_said}
use Rattle.accuracy.proofs.Near.{share_most}
use Rattle.allowance.proofs.Rates.{ratio_most, used_most}
use Rattle.reading.specs.Reading.{Sound}
use Rattle.results.proofs.SectionPlaces.{results_length}
use Rattle.results.proofs.Printed.{share_entry, level_entry}
use Rattle.outcomes.specs.Outcome.{filled_by}
use Rattle.outcomes.proofs.Passed.{accepted, figures_answer, sound}
use Rattle.outcomes.proofs.Accepted.{ultimates, ratio, completed, filled}
use Rattle.list_sizes.proofs.Sizes.{most_entry, entries_small}

module _ (year : ℕ) (s : List ℕ) (ok : run_answer year s most_entries ≡ 0) (bytes : Fit 8 s) where
  good : Sound (figures_of s)
  good = sound year s (accepted year s ok) bytes

  -- questions 10, 13 and 17 have said yes
  levels_pass_lem : levels_pass (square_of (figures_of s)) (figures_of s).k ≡ true
  unfolding figure_questions development_questions separation_questions later_questions tail_questions last_questions completion_questions ratio_questions correction_questions growth_questions completed_ladder_questions every
  levels_pass_lem = yes_said 10 (figure_questions year (figures_of s)) refl (figures_answer year s (accepted year s ok))

  development_passes_lem : development_passes (figures_of s) ≡ true
  unfolding figure_questions development_questions separation_questions later_questions tail_questions last_questions completion_questions ratio_questions correction_questions growth_questions completed_ladder_questions every
  development_passes_lem = yes_said 13 (figure_questions year (figures_of s)) refl (figures_answer year s (accepted year s ok))

  corrected_passes : cond (corrects year) (corrected_ratio_passes (corrected_ratio (plain_ratio_in (figures_of s)) (divisor_in (figures_of s)))) true ≡ true
  unfolding figure_questions development_questions separation_questions later_questions tail_questions last_questions completion_questions ratio_questions correction_questions growth_questions completed_ladder_questions every
  corrected_passes = yes_said 17 (figure_questions year (figures_of s)) refl (figures_answer year s (accepted year s ok))

  ratio_small : used_ratio_in year (figures_of s) ≤ million
  unfolding used_ratio_in plain_ratio_in
  ratio_small =
      let f = figures_of s in
      used_most year (plain_ratio_in f) (divisor_in f) (ratio_most (paid_total f.k f.increments) (ulae_total f.k f.ulae) (ratio year s ok)) corrected_passes

  -- the list begins with the results
  abbrev rest : List ℤ
  rest = drop (0 + length (results_of year (figures_of s))) (replicate most_entries (pos 0))

  pub all_entries : (i : ℕ) → i < result_count (figures_of s).k → nat_abs (get_or (filled_by year s) i (pos 0)) ≤ most_entry
  all_entries i h =
      let f = figures_of s in
      rw (filled year s ok, get_or-append (results_of year f) rest (pos 0) i (omega (arith, results_length year f)))
      (entries_small year f good levels_pass_lem (ultimates year s ok) ratio_small development_passes_lem (completed year s ok) i)

  pub share_entries : (j : ℕ) → j < (figures_of s).k + 1 → nat_abs (get_or (filled_by year s) (section_start (figures_of s).k share_section + j) (pos 0)) ≤ billion
  unfolding printed entry_of
  share_entries j h =
      let f = figures_of s in
      rw (filled year s ok, share_entry year f rest j (omega arith)) (share_most (square_of f) f.k j)

  pub level_entries : (j : ℕ) → j < (figures_of s).k + 1 → nat_abs (get_or (filled_by year s) (section_start (figures_of s).k level_section + j) (pos 0)) ≤ billion
  unfolding printed entry_of levels_pass
  level_entries j h =
      let f = figures_of s in
      rw (filled year s ok, level_entry year f rest j (omega arith))
      (leb-true (level_of (square_of f) f.k j) billion (every_up_to (λ h. leb (level_of (square_of f) f.k h) billion) (λ h. h) (f.k + 1) j levels_pass_lem h))
