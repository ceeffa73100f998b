-- Figures with nothing still to be paid: every tail payment is 0, questions 18 and 19 say yes, and the provisions, the other questions and the list before its
-- tail payments are document 01's. Assumes nothing.
use Prim.Native.Nat.{ℕ, zero, suc, ◌+◌}
use native.Mathlib.Nat.{add-zero, zero-mul, mul-zero, zero-div}
use native.Mathlib.Numerals.{add-one}
use native.Mathlib.Omega.{arith}
use mathlib.Core.Path.{◌≡◌, refl, ap, ◌∙◌}
use mathlib.Core.Bool.{true}
use mathlib.Core.List.{◌++◌, map}
use lib.IntN.{pos}
use lib.ListN.{get_or, replicate, replicate-append-replicate}
use Rattle.rules.specs.Lists.{up_to}
use Rattle.rules.specs.Record.{Figures}
use Rattle.rules.specs.Triangle.{evenly, nearest, average_of}
use Rattle.rules.specs.Tail.{first_tail_average, tail_average, tail_payment, tail_payments, first_tail_average_passes, tail_averages_pass, tail_questions}
use Rattle.rules.specs.Completion.{provision, provisions}
use Rattle.rules.specs.Questions.{first_no}
use Rattle.rules.specs.Results.{factors_in, levels_in, first_tail_average_of, tails_in, provisions_in, separation_sections, completion_sections, reserve_sections, ladder_sections, tail_sections, latest_reported_in, divisor_in, used_ratio_in, sections, results_of}
use Rattle.rules.specs.Separation.{separation_questions}
use Rattle.rules.specs.Engine.{development_questions, completion_questions, correction_questions, last_questions, later_questions, figure_questions}
use Rattle.rules.proofs.Nearest.{nearest_zero}
use Rattle.laws.proofs.Lists.{up_to_ext, every_yes, map_up_to}
use Rattle.laws.proofs.Joined.{joined_append, up_to_all, padded_all}
use Rattle.no_tail.proofs.Document01.{provisions01, divisor01, results_of01, figure_questions01}

-- the average of nothing, over any number of claims
nothing_average : (n : ℕ) → nearest 0 n ≡ 0
unfolding nearest evenly
nothing_average zero = refl
nothing_average (suc n) = nearest_zero 0 (suc n) (omega arith) refl

-- n values that are all z
up_to_same : {A : Type 0} (f : ℕ → A) (z : A) → ((i : ℕ) → f i ≡ z) → (n : ℕ) → up_to f n ≡ replicate n z
unfolding up_to
up_to_same f z e zero = refl
up_to_same f z e (suc n) = rw (up_to_same f z e n, e n, replicate-append-replicate n 1 z, add-one n)

module _ (year : ℕ) (f : Figures) (none : f.tail ≡ 0) where
  abbrev k : ℕ
  k = f.k

  first_none : first_tail_average_of f ≡ 0
  unfolding first_tail_average_of first_tail_average average_of
  first_none = rw (none, nothing_average (get_or f.exposures 0 0))

  -- every t_i and every tail payment
  average_none : (i : ℕ) → tail_average (first_tail_average_of f) f.indices i ≡ 0
  unfolding tail_average
  average_none i = rw (first_none, zero-mul (get_or f.indices i 0)) (zero-div (get_or f.indices 0 0))

  payment_none : (i : ℕ) → tail_payment f.exposures (first_tail_average_of f) f.indices i ≡ 0
  unfolding tail_payment
  payment_none i = rw (average_none i, mul-zero (get_or f.exposures i 0)) refl

  payments_none : map pos (tail_payments f.k f.exposures (first_tail_average_of f) f.indices) ≡ replicate (f.k + 1) (pos 0)
  unfolding tail_payments
  payments_none =
      map_up_to pos (tail_payment f.exposures (first_tail_average_of f) f.indices) (k + 1) ∙ up_to_same _ (pos 0) (λ i. ap pos (payment_none i)) (k + 1)

  tail_none : (i : ℕ) → get_or (tails_in f) i 0 ≡ 0
  unfolding tails_in tail_payments
  tail_none = padded_all (λ x. x ≡ 0) 0 refl 16 0 refl _ (up_to_all (λ x. x ≡ 0) 0 refl _ (k + 1) (λ i l. payment_none i))

  -- the provisions
  provisions_same : provisions f.k f.exposures (factors_in f).shares (levels_in f) (tails_in f) ≡ provisions01 f
  unfolding provisions provision provisions01
  provisions_same = up_to_ext _ _ (k + 1) (λ i l. rw (tail_none i) (add-zero _))

  -- questions 18 and 19 say yes, and the others are as they were
  first_passes : first_tail_average_passes (first_tail_average_of f) ≡ true
  unfolding first_tail_average_passes
  first_passes = rw first_none refl

  averages_pass : tail_averages_pass f.k (first_tail_average_of f) f.indices ≡ true
  unfolding tail_averages_pass
  averages_pass = every_yes _ (λ i. i) (k + 1) (λ i l. rw (average_none i) refl)

  pub questions_none : first_no (figure_questions year f) ≡ first_no (figure_questions01 year f)
  unfolding first_no figure_questions development_questions later_questions last_questions completion_questions correction_questions separation_questions tail_questions divisor_in latest_reported_in divisor01 figure_questions01 provisions_in
  questions_none = rw (first_passes, averages_pass, provisions_same)

  -- the list
  pub results_none : results_of year f ≡ results_of01 year f ++ replicate (f.k + 1) (pos 0)
  unfolding results_of sections separation_sections completion_sections reserve_sections ladder_sections tail_sections used_ratio_in divisor_in latest_reported_in divisor01 results_of01 provisions_in
  results_none = rw (provisions_same, ← payments_none) (joined_append _ _)
