-- What each stage from question 11 on requires, and that it leaves the figures' own arrays and answers. Assumes nothing.
use Prim.Native.Nat.{ℕ, ◌+◌, ◌-◌, ◌≤◌}
use native.Mathlib.Nat.{le_trans, mul-le-mul}
use native.Mathlib.Omega.{arith}
use borrow.Author.Tests.{leb-true}
use mathlib.Core.Path.{◌≡◌, refl, sym, ◌∙◌}
use mathlib.Core.Bool.{Bool, true}
use mathlib.Core.List.{List, ◌++◌}
use lib.Dec.{leb}
use lib.IntN.{ℤ, pos}
use lib.ListN.{get_or, take, replicate}
use lib.Seq.{sets}
use Rattle.rules.specs.Lists.{total, up_to, padded, joined, every}
use Rattle.rules.specs.Questions.{first_no, after_call}
use Rattle.rules.specs.Record.{Figures, million, cells}
use Rattle.rules.specs.Triangle.{most_cumulative}
use Rattle.rules.specs.Separation.{billion, share_of, level_of, factors_of, levels_pass, totals_pass, separation_questions, separate_answer}
use Rattle.rules.specs.Tail.{tail_average, tail_payment, tail_payments, most_tail_average, tail_averages_pass, tail_questions}
use Rattle.rules.specs.Completion.{future_level, future_levels, payment_row, payments, provision, provisions, ultimate, most_ultimate, ultimates_pass}
use Rattle.rules.specs.Expense.{paid_total, ulae_total, ratio_pass, plain_ratio}
use Rattle.rules.specs.Growth.{latest_reported, latest_paid, divisor_of, growth_questions}
use Rattle.rules.specs.Ladder.{developed, base, development_factor, development_factors, most_factor, completed_row, completed_all, completed_pass}
use Rattle.rules.specs.Results.{square_of, latest_diagonal_of, factors_in, first_tail_average_of, paid_in, levels_in, tails_in, provisions_in, development_in, plain_ratio_in, latest_reported_in, latest_paid_in, divisor_in, used_ratio_in, sections, results_of}
use Rattle.rules.specs.Engine.{ratio_questions, correction_questions}
use Rattle.laws.proofs.Lists.{length_up_to, every_up_to, take_padded}
use Rattle.laws.proofs.Padded.{filled_at}
use Rattle.laws.proofs.Joined.{sets_filled, future_length, future_cells_lem, future_most}
use Rattle.laws.proofs.Questions.{said, yes_said, both_zero}
use Rattle.totals.proofs.TotalsMost.{diagonal_most, latest_level}
use Rattle.totals.proofs.Square.{zero_outside}
use Rattle.triangle.proofs.Passed.{paid_most}
use Rattle.completion.specs.Asked.{Completable, most_payment, rows_asked}
use Rattle.entries.specs.Leading.{passing}
use Rattle.entries.proofs.Leading.{asked_all, passing_all}
use Rattle.allowance.proofs.Rates.{ratio_most, used_most}
use Rattle.results.proofs.SectionPlaces.{length_payments, length_completed}
use Rattle.results.proofs.Limits.{shares_most, levels_most, ahead_most, ultimates_most, addable_payments, addable_tails, addable_provisions, factors_most, addable_completed, most_list}
use Rattle.whole_list.specs.Printed.{Printable, printed_list}
use Rattle.ulae_ratio.specs.AskedRatio.{Rateable, RatioAsked}
use Rattle.reserving.specs.Stages.{Separated, Tailed}
use Rattle.answering.proofs.Answering.{one_said}
use Rattle.reserving.proofs.PlainRatio as ratio

module _ (f : Figures) (s : List (List ℤ)) (m c r l : List ℕ) (h : Separated f s m c r l) where
  abbrev k : ℕ
  k = f.k

  -- what a question of the separation has said
  say : (n : ℕ) → said n (separation_questions (square_of f) f.k) ≡ true
  unfolding separate_answer separation_questions every
  say n = yes_said n (separation_questions (square_of f) k) refl h.accepted

  totals_yes : totals_pass (square_of f) f.k ≡ true
  unfolding separation_questions
  totals_yes = say 7

  levels_yes : levels_pass (square_of f) f.k ≡ true
  unfolding separation_questions
  levels_yes = say 10

  -- the latest level is the latest diagonal, at most S
  latest_most : latest_diagonal_of f ≤ billion
  unfolding latest_diagonal_of square_of
  latest_most = diagonal_most (square_of f) k h.sound.few (zero_outside k f.exposures f.increments h.sound.few) totals_yes k (omega arith)

  pub latest_is : get_or l f.k 0 ≡ latest_diagonal_of f
  unfolding latest_diagonal_of factors_in factors_of
  latest_is = rw h.levels (filled_at 16 0 (level_of (square_of f) k) (k + 1) k 0 (omega arith) ∙ latest_level (square_of f) k)

  -- no level is above S
  pub levels_fit : (j : ℕ) → get_or l j 0 ≤ billion
  levels_fit j = rw h.levels (levels_most f levels_yes j)

  -- no paid cumulative is above 10^11
  pub paid_fits : (i : ℕ) → get_or c i 0 ≤ most_cumulative
  unfolding paid_in
  paid_fits = rw h.paid (paid_most k f.increments h.cumulatives)

  -- the future levels
  module _ (a : List ℕ) (e : a ≡ sets (replicate 16 0) 0 (future_levels f.k (get_or l f.k 0) f.indices)) where
    pub ahead_is : a ≡ levels_in f
    unfolding levels_in future_levels
    ahead_is =
        e ∙ rw latest_is (sets_filled 16 0 (future_levels k (latest_diagonal_of f) f.indices) (omega (arith, length_up_to (λ t. future_level (latest_diagonal_of f) (get_or f.indices t 0)) k, h.sound.few)))

    pub completable : Completable f.k f.exposures r a
    completable = record {
      few = h.sound.few;
      exposures = h.sound.exposures_most;
      shares = rw h.shares (shares_most f);
      levels = rw ahead_is (ahead_most f latest_most h.sound.indices);
    }

    -- question 11, with the tail payments z
    module _ (z : List ℕ) (t : Tailed f z) where
      eleven_is : ultimates_pass f.k c (padded 16 0 (provisions f.k f.exposures r a z)) ≡ ultimates_pass f.k (paid_in f) (provisions_in f)
      unfolding provisions_in
      eleven_is = rw (h.paid, h.shares, ahead_is, t.tails)

      pub eleven_said : (b : Bool) → b ≡ ultimates_pass f.k c (padded 16 0 (provisions f.k f.exposures r a z)) → (d : Bool) → b ≡ d
          → ultimates_pass f.k (paid_in f) (provisions_in f) ≡ d
      eleven_said b e d q = sym (e ∙ eleven_is) ∙ q

      module _ (eleven : ultimates_pass f.k (paid_in f) (provisions_in f) ≡ true) where
        -- every row was completed
        all_rows : rows_asked f.k f.exposures r a z c ≡ f.k + 1
        unfolding rows_asked ultimates_pass
        all_rows = asked_all (λ i. leb (ultimate c (padded 16 0 (provisions k f.exposures r a z)) i) most_ultimate) (k + 1) (eleven_is ∙ eleven)

        pub payments_are : (y : List ℕ) → y ≡ sets (replicate 120 0) 0 (joined (up_to (payment_row f.k f.exposures r a) (rows_asked f.k f.exposures r a z c)))
            → y ≡ padded 120 0 (payments f.k f.exposures (factors_in f).shares (levels_in f))
        unfolding payments
        payments_are y p =
            let row = payment_row k f.exposures (factors_in f).shares (levels_in f) in
            let size = future_length row (length_payments k f.exposures (factors_in f).shares (levels_in f)) (k + 1) in
            p ∙ rw (all_rows, h.shares, ahead_is) (sets_filled 120 0 (joined (up_to row (k + 1))) (omega (arith, size, future_most (k + 1) (omega (arith, h.sound.few)))))

        pub provisions_are : (q : List ℕ) → q ≡ sets (replicate 16 0) 0 (up_to (provision f.k f.exposures r a z) (rows_asked f.k f.exposures r a z c)) → q ≡ provisions_in f
        unfolding provisions_in provisions
        provisions_are q p =
            let one = provision k f.exposures (factors_in f).shares (levels_in f) (tails_in f) in
            p ∙ rw (all_rows, h.shares, ahead_is, t.tails) (sets_filled 16 0 (up_to one (k + 1)) (omega (arith, length_up_to one (k + 1), h.sound.few)))

  -- no tail payment is above the most of a payment
  pub tails_fit : (z : List ℕ) → Tailed f z → (i : ℕ) → get_or z i 0 ≤ most_payment
  unfolding tails_in tail_payments tail_payment tail_questions tail_averages_pass every
  tails_fit z t =
      let nineteen = yes_said 19 (tail_questions k (first_tail_average_of f) f.indices) refl t.passed in
      rw t.tails
      (most_list most_payment 16 (k + 1) (tail_payment f.exposures (first_tail_average_of f) f.indices)
      (λ i l.
      let low = leb-true (tail_average (first_tail_average_of f) f.indices i) most_tail_average (every_up_to (λ i. leb (tail_average (first_tail_average_of f) f.indices i) most_tail_average) (λ i. i) (k + 1) i nineteen l) in
      omega (arith, mul-le-mul (h.sound.exposures_most i) low)))

  -- questions 12, 15, 16 and 17, of the provisions q
  module _ (q : List ℕ) (provisions : q ≡ provisions_in f) where
    pub rateable : ultimates_pass f.k (paid_in f) (provisions_in f) ≡ true → Rateable f.k c q f.reporting f.ulae f.weight
    rateable q11 = record {
      few = h.sound.few;
      ultimates = rw (h.paid, provisions) (ultimates_most f q11);
      reporting = h.sound.reporting_sum;
      ulae = h.sound.ulae;
      weight = h.sound.weight;
    }

    paid_sum : total (take (f.k + 1) c) ≡ total (take (f.k + 1) (paid_in f))
    paid_sum = rw h.paid

    twelve_is : ratio_pass (pos (total (take (f.k + 1) c))) (total (take (f.k + 1) f.ulae)) ≡ ratio_pass (paid_total f.k f.increments) (ulae_total f.k f.ulae)
    twelve_is = ratio.twelve_is f h.sound h.cumulatives _ _ paid_sum refl

    plain_is : plain_ratio (pos (total (take (f.k + 1) c))) (total (take (f.k + 1) f.ulae)) ≡ plain_ratio_in f
    plain_is = ratio.plain_is f h.sound h.cumulatives _ _ paid_sum refl

    divisor_is : divisor_of f.weight (latest_reported f.k f.reporting c q) (latest_paid f.k f.increments) ≡ divisor_in f
    unfolding divisor_in latest_reported_in latest_paid_in
    divisor_is = rw (h.paid, provisions)

    module _ (year n x : ℕ) (asked : RatioAsked year (total (take (f.k + 1) c)) (total (take (f.k + 1) f.ulae)) (latest_paid f.k f.increments)
        (divisor_of f.weight (latest_reported f.k f.reporting c q) (latest_paid f.k f.increments)) n x) where
      pub asked_is : first_no (ratio_questions f ++ correction_questions year f) ≡ n
      unfolding ratio_questions correction_questions latest_paid_in
      asked_is = sym (rw (divisor_is, plain_is, twelve_is) at asked.0)

      -- where all of them say yes
      module _ (none : n ≡ 0) where
        both : (first_no (ratio_questions f) ≡ 0) × (first_no (correction_questions year f) ≡ 0)
        unfolding ratio_questions every
        both = both_zero (ratio_questions f) (correction_questions year f) refl (asked_is ∙ none)

        pub yes_twelve : ratio_pass (paid_total f.k f.increments) (ulae_total f.k f.ulae) ≡ true
        unfolding ratio_questions
        yes_twelve = one_said 11 _ both.0

        pub yes_correction : first_no (correction_questions year f) ≡ 0
        yes_correction = both.1

        pub used_is : x ≡ used_ratio_in year f
        unfolding used_ratio_in after_call
        used_is = rw (divisor_is, plain_is, twelve_is, yes_twelve, none) at asked.1

  -- no development factor is above 50 × M
  pub factors_fit : (j : ℕ) → get_or m j 0 ≤ most_factor
  factors_fit = rw h.factors (factors_most f h.development)

  -- question 14
  pub fourteen_is : completed_pass (completed_all f.k c m) ≡ completed_pass (completed_all f.k (paid_in f) (development_in f))
  fourteen_is = rw (h.factors, h.paid)

  pub completed_are : (x : List ℕ) → completed_pass (completed_all f.k (paid_in f) (development_in f)) ≡ true
      → x ≡ sets (replicate 120 0) 0 (passing (λ z. leb z most_cumulative) (completed_all f.k c m)) → x ≡ padded 120 0 (completed_all f.k (paid_in f) (development_in f))
  unfolding completed_pass completed_all
  completed_are x q e =
      let row = completed_row k (paid_in f) (development_in f) in
      let all = joined (up_to row (k + 1)) in
      let size = future_length row (length_completed k (paid_in f) (development_in f)) (k + 1) in
      e ∙ rw (h.paid, h.factors, passing_all (λ z. leb z most_cumulative) all q) (sets_filled 120 0 all (omega (arith, size, future_most (k + 1) (omega (arith, h.sound.few)))))

-- all that was worked out from question 11 on of figures that pass every question in a valuation year: the future levels a, the payments y, the provisions q, the
-- ratio p and the completed cumulatives x
pub record Worked (year : ℕ) (f : Figures) (a y q : List ℕ) (p : ℕ) (x : List ℕ) : Type 0 where
  pub eleven : ultimates_pass f.k (paid_in f) (provisions_in f) ≡ true
  pub twelve : ratio_pass (paid_total f.k f.increments) (ulae_total f.k f.ulae) ≡ true
  pub correction : first_no (correction_questions year f) ≡ 0
  pub fourteen : completed_pass (completed_all f.k (paid_in f) (development_in f)) ≡ true
  pub ahead : a ≡ levels_in f
  pub payments : y ≡ padded 120 0 (payments f.k f.exposures (factors_in f).shares (levels_in f))
  pub provisions : q ≡ provisions_in f
  pub ratio : p ≡ used_ratio_in year f
  pub completed : x ≡ padded 120 0 (completed_all f.k (paid_in f) (development_in f))

pub worked : (year : ℕ) (f : Figures) {a y q : List ℕ} {p : ℕ} {x : List ℕ} → ultimates_pass f.k (paid_in f) (provisions_in f) ≡ true
    → ratio_pass (paid_total f.k f.increments) (ulae_total f.k f.ulae) ≡ true → first_no (correction_questions year f) ≡ 0
    → completed_pass (completed_all f.k (paid_in f) (development_in f)) ≡ true → a ≡ levels_in f
    → y ≡ padded 120 0 (payments f.k f.exposures (factors_in f).shares (levels_in f)) → q ≡ provisions_in f → p ≡ used_ratio_in year f
    → x ≡ padded 120 0 (completed_all f.k (paid_in f) (development_in f)) → Worked year f a y q p x
worked year f q11 q12 qc q14 ea ey eq ep ex = record {
  eleven = q11;
  twelve = q12;
  correction = qc;
  fourteen = q14;
  ahead = ea;
  payments = ey;
  provisions = eq;
  ratio = ep;
  completed = ex;
}

-- the lists that are put are found again in their arrays
module _ (f : Figures) where
  take_shares : take (f.k + 1) (factors_in f).shares ≡ up_to (share_of (square_of f) f.k) (f.k + 1)
  unfolding factors_in factors_of
  take_shares = take_padded 16 (f.k + 1) 0 _ (length_up_to (share_of (square_of f) f.k) (f.k + 1))

  take_levels : take (f.k + 1) (factors_in f).levels ≡ up_to (level_of (square_of f) f.k) (f.k + 1)
  unfolding factors_in factors_of
  take_levels = take_padded 16 (f.k + 1) 0 _ (length_up_to (level_of (square_of f) f.k) (f.k + 1))

  take_ahead : take f.k (levels_in f) ≡ future_levels f.k (latest_diagonal_of f) f.indices
  unfolding levels_in future_levels
  take_ahead = take_padded 16 f.k 0 _ (length_up_to (λ t. future_level (latest_diagonal_of f) (get_or f.indices t 0)) f.k)

  take_payments : take (cells f.k - (f.k + 1)) (padded 120 0 (payments f.k f.exposures (factors_in f).shares (levels_in f))) ≡ payments f.k f.exposures (factors_in f).shares (levels_in f)
  unfolding payments
  take_payments =
      let row = payment_row f.k f.exposures (factors_in f).shares (levels_in f) in
      take_padded 120 (cells f.k - (f.k + 1)) 0 (joined (up_to row (f.k + 1)))
      (omega (arith, future_length row (length_payments f.k f.exposures (factors_in f).shares (levels_in f)) (f.k + 1), future_cells_lem f.k))

  take_provisions : take (f.k + 1) (provisions_in f) ≡ provisions f.k f.exposures (factors_in f).shares (levels_in f) (tails_in f)
  unfolding provisions_in provisions
  take_provisions = take_padded 16 (f.k + 1) 0 _ (length_up_to (provision f.k f.exposures (factors_in f).shares (levels_in f) (tails_in f)) (f.k + 1))

  take_tails : take (f.k + 1) (tails_in f) ≡ tail_payments f.k f.exposures (first_tail_average_of f) f.indices
  unfolding tails_in tail_payments
  take_tails = take_padded 16 (f.k + 1) 0 _ (length_up_to (tail_payment f.exposures (first_tail_average_of f) f.indices) (f.k + 1))

  take_factors : take f.k (development_in f) ≡ development_factors f.k (developed f.k f.increments) (base f.k f.increments)
  unfolding development_in development_factors
  take_factors = take_padded 16 f.k 0 _ (length_up_to (λ j. development_factor (developed f.k f.increments j) (base f.k f.increments j)) f.k)

  take_completed : take (cells f.k - (f.k + 1)) (padded 120 0 (completed_all f.k (paid_in f) (development_in f))) ≡ completed_all f.k (paid_in f) (development_in f)
  unfolding completed_all
  take_completed =
      let row = completed_row f.k (paid_in f) (development_in f) in
      take_padded 120 (cells f.k - (f.k + 1)) 0 (joined (up_to row (f.k + 1)))
      (omega (arith, future_length row (length_completed f.k (paid_in f) (development_in f)) (f.k + 1), future_cells_lem f.k))

module _ (f : Figures) (s : List (List ℤ)) (m c r l : List ℕ) (h : Separated f s m c r l) (a y q : List ℕ) (p : ℕ) (x : List ℕ) (year : ℕ) (w : Worked year f a y q p x) (z : List ℕ) (t : Tailed f z) where
  -- the ratio is at most M
  ratio_fits : p ≤ million
  unfolding plain_ratio_in used_ratio_in correction_questions growth_questions every
  ratio_fits =
      rw w.ratio
      (used_most year (plain_ratio_in f) (divisor_in f) (ratio_most (paid_total f.k f.increments) (ulae_total f.k f.ulae) w.twelve)
      (yes_said 17 (correction_questions year f) refl w.correction))

  pub printable : Printable f.k r l a y q c f.reporting f.weight p m x z
  printable = record {
    few = h.sound.few;
    shares = rw h.shares (λ j. le_trans (shares_most f j) (omega arith));
    levels = rw h.levels (λ j. le_trans (levels_most f (levels_yes f s m c r l h) j) (omega arith));
    ahead = rw w.ahead (λ t. le_trans (ahead_most f (latest_most f s m c r l h) h.sound.indices t) (omega arith));
    payments = rw w.payments (addable_payments f w.eleven);
    provisions = rw w.provisions (addable_provisions f w.eleven);
    reserves = record {
      few = h.sound.few;
      ultimates = rw (h.paid, w.provisions) (ultimates_most f w.eleven);
      reporting = h.sound.reporting_sum;
      weight = h.sound.weight;
      ratio = ratio_fits;
    };
    factors = rw h.factors (λ j. le_trans (factors_most f h.development j) (omega arith));
    completed = rw w.completed (addable_completed (completed_all f.k (paid_in f) (development_in f)) w.fourteen);
    tails = rw t.tails (addable_tails f w.eleven);
  }

  -- the list that is put is the figures' own
  pub printed_is : printed_list f.k s r l a y q c f.reporting f.weight p m x z ≡ results_of year f
  unfolding printed_list results_of sections
  printed_is =
      rw (h.square, h.paid, h.shares, h.levels, w.ahead, w.payments, w.provisions, w.ratio, h.factors, w.completed, t.tails, take_shares f, take_levels f, take_ahead f, take_payments f, take_provisions f, take_factors f, take_completed f, take_tails f)
