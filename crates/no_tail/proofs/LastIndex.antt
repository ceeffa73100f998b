-- Document 01's rules read the indices e_1 to e_k and no other: with any index after them, the questions and the list are the same. Assumes nothing.
use Prim.Native.Nat.{ℕ, ◌<◌}
use mathlib.Core.Path.{◌≡◌, ap}
use mathlib.Core.List.{List}
use lib.ListN.{get_or}
use Rattle.rules.specs.Record.{Figures, figures}
use Rattle.rules.specs.Completion.{future_level, future_levels}
use Rattle.rules.specs.Results.{square_of, latest_diagonal_of, factors_in, paid_in, levels_in, development_in, plain_ratio_in, latest_paid_in}
use Rattle.rules.specs.Engine.{development_questions, ratio_questions, completed_ladder_questions}
use Rattle.laws.proofs.Lists.{up_to_ext}
use Rattle.no_tail.proofs.Document01.{provisions01, divisor01, results_of01, figure_questions01}

-- figures with other indices
abbrev pub with_indices : List ℕ → Figures → Figures
with_indices e f = figures f.k f.exposures f.increments e f.reporting f.weight f.ulae f.tail

module _ (year : ℕ) (f : Figures) (e : List ℕ) (same : (t : ℕ) → t < f.k → get_or e t 0 ≡ get_or f.indices t 0) where
  levels_same : future_levels f.k (latest_diagonal_of f) e ≡ future_levels f.k (latest_diagonal_of f) f.indices
  unfolding future_levels
  levels_same = up_to_ext _ _ f.k (λ t l. ap (future_level (latest_diagonal_of f)) (same t l))

  pub questions_same : figure_questions01 year (with_indices e f) ≡ figure_questions01 year f
  unfolding figure_questions01 provisions01 divisor01 development_questions ratio_questions completed_ladder_questions square_of latest_diagonal_of factors_in paid_in levels_in development_in plain_ratio_in latest_paid_in
  questions_same = rw levels_same

  pub results_same : results_of01 year (with_indices e f) ≡ results_of01 year f
  unfolding results_of01 provisions01 divisor01 square_of latest_diagonal_of factors_in paid_in levels_in development_in plain_ratio_in latest_paid_in
  results_same = rw levels_same
