-- A step is what questions 7 to 10 and the completion give of the records that are kept. Assumes nothing.
use Prim.Native.Nat.{ℕ, zero, suc, ◌+◌, ◌-◌, ◌*◌, ◌≤◌, ◌<◌}
use native.Mathlib.Omega.{arith}
use mathlib.Core.Path.{◌≡◌, refl, sym, ap, ap₂, ◌∙◌}
use mathlib.Core.List.{List, []}
use lib.IntN.{ℤ, pos}
use lib.ListN.{length, get_or, take}
use lib.Seq.{get_or-take}
use Rattle.rules.specs.Lists.{up_to, padded}
use Rattle.rules.specs.Questions.{after_call}
use Rattle.rules.specs.Record.{Figures, last_year_of, fields_of, figures_of, exposures_in, increments_in}
use Rattle.rules.specs.Triangle.{paid_of, average_of, averages_of}
use Rattle.rules.specs.Separation.{diagonal_of, share_of, separate_answer, factors_of}
use Rattle.rules.specs.Completion.{future_level, future_levels, payment_of, payment}
use Rattle.rules.specs.Results.{square_of, latest_diagonal_of, factors_in, levels_in}
use Rattle.rules.specs.Hindsight.{kept_increments, kept_averages, step_mark, forecast}
use Rattle.laws.proofs.Padded.{filled_at}
use Rattle.totals.proofs.Square.{square_same, averages_are}
use Rattle.history_records.proofs.Same.{filled_out, arrays_same}
use Rattle.hindsight_records.specs.Records.{KeptIn, AsMarked, AsCompleted}

-- the averages of the years 0 to h ask for no more exposures
averages_first : (h : ℕ) (n : List ℕ) (p : List ℤ) → averages_of h (take (h + 1) n) p ≡ averages_of h n p
averages_first h n p =
    averages_are h (take (h + 1) n) p
    ∙ square_same h (λ i j. average_of (paid_of h p i j) (get_or (take (h + 1) n) i 0)) (λ i j. average_of (paid_of h p i j) (get_or n i 0)) (λ i j l. ap (average_of (paid_of h p i j)) (get_or-take (h + 1) n i 0 (omega arith)))
    ∙ sym (averages_are h n p)

module _ (k : ℕ) (n : List ℕ) (p : List ℤ) (h : ℕ) (s : List ℕ) (kept : KeptIn k n p h s) where
  square_kept : square_of (figures_of s) ≡ kept_averages k n p h
  unfolding square_of figures_of kept_averages
  square_kept = rw (kept.last, kept.exposures, kept.increments) (arrays_same h (take (h + 1) n) (kept_increments k p h) ∙ averages_first h n (kept_increments k p h))

  exposure_kept : (i : ℕ) → i ≤ h → get_or (figures_of s).exposures i 0 ≡ get_or n i 0
  unfolding figures_of padded
  exposure_kept i l = rw (kept.last, kept.exposures) (filled_out 0 (take (h + 1) n) (16 - length (take (h + 1) n)) i ∙ get_or-take (h + 1) n i 0 (omega arith))

  last_kept : (figures_of s).k ≡ h
  unfolding figures_of
  last_kept = kept.last

-- the shares and the first future level of figures
share_at_lem : (f : Figures) (j : ℕ) → j ≤ f.k → get_or (factors_in f).shares j 0 ≡ share_of (square_of f) f.k j
unfolding factors_in factors_of
share_at_lem f j l = filled_at 16 0 (share_of (square_of f) f.k) (f.k + 1) j 0 (omega arith)

level_at : (f : Figures) → 1 ≤ f.k → get_or (levels_in f) 0 0 ≡ future_level (diagonal_of (square_of f) f.k) (get_or f.indices 0 0)
unfolding levels_in future_levels latest_diagonal_of
level_at f l = filled_at 16 0 (λ t. future_level (latest_diagonal_of f) (get_or f.indices t 0)) f.k 0 0 l

module _ (k : ℕ) (n : List ℕ) (p : List ℤ) (h : ℕ) where
  pub as_marked : AsMarked k n p h
  unfolding step_mark
  as_marked s kept = rw (square_kept k n p h s kept, kept.last) refl

  pub as_completed : AsCompleted k n p h
  unfolding forecast payment
  as_completed s kept few e i first some l =
      let f = figures_of s in
      let place : i + (h + 1 - i) - h - 1 ≡ 0 = omega arith in
      let last = last_kept k n p h s kept in
      let square = square_kept k n p h s kept in
      let share : get_or (factors_in f).shares (h + 1 - i) 0 ≡ share_of (kept_averages k n p h) h (h + 1 - i)
      = share_at_lem f (h + 1 - i) (omega (arith, last)) ∙ ap₂ (λ (q : List (List ℤ)) (c : ℕ). share_of q c (h + 1 - i)) square last in
      let level : get_or (levels_in f) 0 0 ≡ future_level (diagonal_of (kept_averages k n p h) h) e
      = level_at f (omega (arith, last)) ∙ ap₂ future_level (ap₂ diagonal_of square last) first in
      rw (kept.last, place, share, level, exposure_kept k n p h s kept i l) refl
