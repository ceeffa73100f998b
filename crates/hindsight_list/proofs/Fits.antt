-- A step's triangle cut out of the record's averages is the one of the rule, so that its fit is the one that the rule asks for. Assumes nothing.
use Prim.Native.Nat.{ℕ, zero, suc, ◌+◌, ◌-◌, ◌≤◌, ◌<◌}
use native.Mathlib.Omega.{arith}
use mathlib.Core.Path.{◌≡◌, refl, sym, ap, ap₂, ◌∙◌}
use mathlib.Core.List.{List, []}
use lib.IntN.{ℤ, pos}
use lib.ListN.{get_or, replicate}
use lib.Seq.{sets}
use Rattle.rules.specs.Lists.{up_to, padded}
use Rattle.rules.specs.Questions.{after_call}
use Rattle.rules.specs.Triangle.{row_start, paid_of, average_of, averages_of, cell_of}
use Rattle.rules.specs.Separation.{share_of, level_of, diagonal_of, separate_answer, separated, factors_of, no_factors}
use Rattle.rules.specs.Hindsight.{kept_increments, kept_averages, step_mark}
use Rattle.laws.proofs.Lists.{length_up_to, get_d_up_to}
use Rattle.laws.proofs.Padded.{filled_at}
use Rattle.laws.proofs.Joined.{past_at, sets_filled}
use Rattle.totals.specs.Squares.{cut_of}
use Rattle.totals.proofs.Square.{square_same, averages_are, cell_inside}
use Rattle.totals.proofs.TotalsMost.{latest_level}
use Rattle.positions.proofs.Sizes.{answer_most, factors_small}
use Rattle.hindsight_fits.specs.Fits.{fit_mark, fit_level, fit_shares}
use Rattle.hindsight_gaps.specs.Fitted.{Fitted}
use Rattle.hindsight_settings.specs.Steps.{AllFitted}

-- the increment at its place
by_place : (k : ℕ) (p : List ℤ) (i j : ℕ) → paid_of k p i j ≡ get_or p (row_start k i + j) (pos 0)
unfolding paid_of
by_place k p i j = refl

-- an entry of a run of stores at the start of sixteen
stored_at : {A : Type 0} (z : A) (f : ℕ → A) (c m : ℕ) (d : A) → c ≤ 16 → m < c → get_or (sets (replicate 16 z) 0 (up_to f c)) m d ≡ f m
stored_at z f c m d h l = rw (sets_filled 16 z (up_to f c) (omega (arith, length_up_to f c))) (filled_at 16 z f c m d l)

module _ (k : ℕ) (n : List ℕ) (p : List ℤ) (few : k < 16) where
  -- the whole triangle cut out of the averages
  pub cut_whole : cut_of (averages_of k n p) 0 k ≡ averages_of k n p
  unfolding cut_of
  cut_whole =
      square_same k (λ i j. cell_of (averages_of k n p) (0 + i) j) (λ i j. average_of (paid_of k p i j) (get_or n i 0)) cell ∙ sym (averages_are k n p)
    where
      cell : (i j : ℕ) → i + j ≤ k → cell_of (averages_of k n p) (0 + i) j ≡ average_of (paid_of k p i j) (get_or n i 0)
      cell i j l =
          let same : 0 + i ≡ i = omega arith in
          rw same (cell_inside k n p i j l few)

  module _ (h : ℕ) (less : h ≤ k) where
    -- the increments that are left
    abbrev row : ℕ → List ℤ
    row r = up_to (paid_of k p r) (h + 1 - r)

    left_at : (i j : ℕ) → i + j ≤ h → get_or (kept_increments k p h) (row_start h i + j) (pos 0) ≡ paid_of k p i j
    unfolding kept_increments
    left_at i j l =
        past_at row h (λ r. length_up_to (paid_of k p r) (h + 1 - r)) (h + 1) i j (pos 0) (omega arith) l ∙ get_d_up_to (paid_of k p i) (h + 1 - i) j (pos 0) (omega arith)

    pub kept_paid : (i j : ℕ) → i + j ≤ h → paid_of h (kept_increments k p h) i j ≡ paid_of k p i j
    kept_paid i j l = by_place h (kept_increments k p h) i j ∙ left_at i j l

    -- the triangle of the step
    pub step_square : cut_of (averages_of k n p) 0 h ≡ kept_averages k n p h
    unfolding cut_of kept_averages
    step_square =
        square_same h (λ i j. cell_of (averages_of k n p) (0 + i) j) (λ i j. average_of (paid_of h (kept_increments k p h) i j) (get_or n i 0)) cell
        ∙ sym (averages_are h n (kept_increments k p h))
      where
        cell : (i j : ℕ) → i + j ≤ h → cell_of (averages_of k n p) (0 + i) j ≡ average_of (paid_of h (kept_increments k p h) i j) (get_or n i 0)
        cell i j l =
            let same : 0 + i ≡ i = omega arith in
            rw same (cell_inside k n p i j (omega arith) few ∙ ap (λ (z : ℤ). average_of z (get_or n i 0)) (sym (kept_paid i j l)))

    -- its mark, its latest level and its shares, as they are handed back
    shares_at : (s : List (List ℤ)) (z : separate_answer s h ≡ 0) (j : ℕ) → j ≤ h → get_or (separated s h).shares j 0 ≡ share_of s h j
    unfolding separated after_call factors_of
    shares_at s z j l = rw z (filled_at 16 0 (share_of s h) (h + 1) j 0 (omega arith))

    level_at : (s : List (List ℤ)) (z : separate_answer s h ≡ 0) → get_or (separated s h).levels h 0 ≡ diagonal_of s h
    unfolding separated after_call factors_of
    level_at s z = rw z (filled_at 16 0 (level_of s h) (h + 1) h 0 (omega arith) ∙ latest_level s h)

    -- so it is fitted, by any square that is the triangle of the step
    fitted_by : (s : List (List ℤ)) → s ≡ kept_averages k n p h → Fitted k n p h (separate_answer s h) (get_or (separated s h).levels h 0) (separated s h).shares
    unfolding step_mark
    fitted_by s e =
        record {
          marked = ap (λ (q : List (List ℤ)). separate_answer q h) e;
          latest = λ z. level_at s z ∙ ap (λ (q : List (List ℤ)). diagonal_of q h) e;
          share = λ z j l. shares_at s z j l ∙ ap (λ (q : List (List ℤ)). share_of q h j) e;
          mark_most = answer_most s h;
          level_most = (factors_small s h).1 h;
          share_most = (factors_small s h).0;
        }

    pub fitted : Fitted k n p h (fit_mark (averages_of k n p) h) (fit_level (averages_of k n p) h) (fit_shares (averages_of k n p) h)
    unfolding fit_mark fit_level fit_shares
    fitted = fitted_by (cut_of (averages_of k n p) 0 h) step_square

  -- the fits of all steps, each at its place
  pub all_fitted : (marks levels : List ℕ) (shares : List (List ℕ))
      → marks ≡ sets (replicate 16 0) 0 (up_to (λ m. fit_mark (averages_of k n p) (k - 1 - m)) (k - 1))
      → levels ≡ sets (replicate 16 0) 0 (up_to (λ m. fit_level (averages_of k n p) (k - 1 - m)) (k - 1))
      → shares ≡ sets (replicate 16 (replicate 16 0)) 0 (up_to (λ m. fit_shares (averages_of k n p) (k - 1 - m)) (k - 1))
      → AllFitted k n p marks levels shares
  all_fitted marks levels shares a b c m l =
      rw (
        a,
        b,
        c,
        stored_at 0 (λ r. fit_mark (averages_of k n p) (k - 1 - r)) (k - 1) m 0 (omega arith) l,
        stored_at 0 (λ r. fit_level (averages_of k n p) (k - 1 - r)) (k - 1) m 0 (omega arith) l,
        stored_at (replicate 16 0) (λ r. fit_shares (averages_of k n p) (k - 1 - r)) (k - 1) m [] (omega arith) l,
      )
      (fitted (k - 1 - m) (omega arith))
