-- What an accepted run in a valuation year says of its figures and of the list that it filled. Assumes nothing.
use Prim.Native.Nat.{ℕ, ◌+◌}
use native.Mathlib.Omega.{arith}
use mathlib.Core.Path.{◌≡◌, refl}
use mathlib.Core.Bool.{true}
use mathlib.Core.List.{List, ◌++◌}
use lib.IntN.{pos}
use lib.ListN.{length, drop, replicate}
use lib.Seq.{sets-eq}
use Rattle.rules.specs.Lists.{every}
use Rattle.rules.specs.Questions.{after_call}
use Rattle.rules.specs.Record.{figures_of}
use Rattle.rules.specs.Separation.{separation_questions}
use Rattle.rules.specs.Completion.{ultimates_pass}
use Rattle.rules.specs.Expense.{paid_total, ulae_total, ratio_pass}
use Rattle.rules.specs.Growth.{corrects, latest_paid_passes, growth_questions}
use Rattle.rules.specs.Ladder.{completed_all, completed_pass}
use Rattle.rules.specs.Results.{most_entries, paid_in, provisions_in, development_in, latest_paid_in, results_of}
use Rattle.rules.specs.Tail.{tail_questions}
use Rattle.rules.specs.Engine.{development_questions, completion_questions, ratio_questions, correction_questions, completed_ladder_questions, last_questions, later_questions, figure_questions, run_answer, run_into}
use Rattle.laws.proofs.Questions.{yes_said}
use Rattle.results.proofs.SectionPlaces.{results_length}
use Rattle.outcomes.specs.Outcome.{filled_by}
use Rattle.outcomes.proofs.Passed.{accepted, room, figures_answer}

module _ (year : ℕ) (s : List ℕ) (ok : run_answer year s most_entries ≡ 0) where
  -- questions 11, 12 and 14 have said yes
  pub ultimates : ultimates_pass (figures_of s).k (paid_in (figures_of s)) (provisions_in (figures_of s)) ≡ true
  unfolding figure_questions development_questions separation_questions later_questions tail_questions last_questions completion_questions ratio_questions correction_questions growth_questions completed_ladder_questions every
  ultimates = yes_said 11 (figure_questions year (figures_of s)) refl (figures_answer year s (accepted year s ok))

  pub ratio : ratio_pass (paid_total (figures_of s).k (figures_of s).increments) (ulae_total (figures_of s).k (figures_of s).ulae) ≡ true
  unfolding figure_questions development_questions separation_questions later_questions tail_questions last_questions completion_questions ratio_questions correction_questions growth_questions completed_ladder_questions every
  ratio = yes_said 12 (figure_questions year (figures_of s)) refl (figures_answer year s (accepted year s ok))

  pub completed : completed_pass (completed_all (figures_of s).k (paid_in (figures_of s)) (development_in (figures_of s))) ≡ true
  unfolding figure_questions development_questions separation_questions later_questions tail_questions last_questions completion_questions ratio_questions correction_questions growth_questions completed_ladder_questions every
  completed = yes_said 14 (figure_questions year (figures_of s)) refl (figures_answer year s (accepted year s ok))

  -- and question 15, where the year's ratio is corrected
  pub latest : corrects year ≡ true → latest_paid_passes (latest_paid_in (figures_of s)) ≡ true
  unfolding figure_questions development_questions separation_questions later_questions tail_questions last_questions completion_questions ratio_questions correction_questions growth_questions completed_ladder_questions every
  latest e = rw e at (yes_said 15 (figure_questions year (figures_of s)) refl (figures_answer year s (accepted year s ok)))

  -- the list begins with the results
  pub filled : filled_by year s ≡ results_of year (figures_of s) ++ drop (0 + length (results_of year (figures_of s))) (replicate most_entries (pos 0))
  unfolding run_into after_call
  filled =
      rw ok
      (sets-eq (results_of year (figures_of s)) (replicate most_entries (pos 0)) 0 (omega (arith, room year s (accepted year s ok), results_length year (figures_of s))))
