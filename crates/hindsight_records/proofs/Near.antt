-- The fit of a step that is not marked, and its forecasts, are as near to every exact solution as the third demand asks. Assumes nothing.
use Prim.Native.Nat.{ℕ, zero, suc, ◌+◌, ◌-◌, ◌*◌, ◌≤◌, ◌<◌, zero-le}
use native.Mathlib.Omega.{arith}
use mathlib.Core.Path.{◌≡◌, refl, sym, ap, ◌∙◌}
use mathlib.Core.Bool.{true}
use mathlib.Core.List.{List, [], ◌∷◌}
use lib.IntN.{ℤ, pos, ◌*ℤ◌}
use lib.ListN.{get_or}
use Rattle.rules.specs.Lists.{up_to, every}
use Rattle.rules.specs.Record.{Figures, figures, most_index}
use Rattle.rules.specs.Triangle.{column_total, diagonal_total, ZeroOutside}
use Rattle.rules.specs.Separation.{diagonal_of, share_of, level_of, totals_pass, separation_questions, separate_answer}
use Rattle.rules.specs.Exact.{Solves, NearExact}
use Rattle.rules.specs.Tail.{tail_payment}
use Rattle.rules.specs.Completion.{future_level, future_levels, payment_of, payment}
use Rattle.rules.specs.Results.{first_tail_average_of}
use Rattle.rules.specs.Demand.{Within, exact_payment, payment_allowance, payment_over}
use Rattle.rules.specs.Hindsight.{kept_increments, kept_averages, step_mark, forecast}
use Rattle.laws.proofs.Lists.{get_d_up_to}
use Rattle.laws.proofs.Questions.{yes_at}
use Rattle.totals.proofs.Square.{zero_outside}
use Rattle.totals.proofs.TotalsMost.{diagonal_most}
use Rattle.accuracy.proofs.Near.{near_exact, share_most}
use Rattle.allowance.proofs.Carried.{Basis, payment_near}
use Rattle.hindsight_records.specs.Records.{FitNear, ForecastNear}

module _ (k : ℕ) (n : List ℕ) (p : List ℤ) (h : ℕ) (few : h < 16) (z : step_mark k n p h ≡ 0) where
  abbrev square : List (List ℤ)
  square = kept_averages k n p h

  outside : ZeroOutside square h
  unfolding kept_averages
  outside = zero_outside h n (kept_increments k p h) few

  asked : separate_answer square h ≡ 0
  unfolding step_mark
  asked = z

  totals : totals_pass square h ≡ true
  unfolding separate_answer separation_questions every
  totals = yes_at (separation_questions square h) refl asked 0

  exact : NearExact h (column_total square) (diagonal_total square) (share_of square h) (level_of square h)
  unfolding separate_answer separation_questions every
  exact = near_exact square h outside totals (yes_at (separation_questions square h) refl asked 1) (yes_at (separation_questions square h) refl asked 2)

  module _ (D E : ℕ) (x y : ℕ → ℤ) (solves : Solves h D E (column_total square) (diagonal_total square) x y) (e i : ℕ) (least : 1 ≤ e) (most : e ≤ most_index) (some : 1 ≤ i) (inside : i ≤ h) where
    -- figures with the trial index as their first one
    abbrev tried : Figures
    tried = figures h n (kept_increments k p h) (e ∷ []) [] 0 [] 0

    abbrev shares : List ℕ
    shares = up_to (share_of square h) (h + 1)

    abbrev levels : List ℕ
    levels = future_levels h (diagonal_of square h) (e ∷ [])

    share_at_lem : (j : ℕ) → j ≤ h → get_or shares j 0 ≡ share_of square h j
    share_at_lem j l = get_d_up_to (share_of square h) (h + 1) j 0 (omega arith)

    level_at : (t : ℕ) → t < h → get_or levels t 0 ≡ future_level (diagonal_of square h) (get_or (e ∷ []) t 0)
    unfolding future_levels
    level_at t l = get_d_up_to (λ t. future_level (diagonal_of square h) (get_or (e ∷ []) t 0)) h t 0 l

    index_most : (t : ℕ) → get_or (e ∷ []) t 0 ≤ most_index
    index_most zero = most
    index_most (suc t) = zero-le

    basis : Basis tried (diagonal_of square h) shares levels (up_to (tail_payment n (first_tail_average_of tried) (e ∷ [])) (h + 1)) D x
    basis = record {
      latest = diagonal_most square h few outside totals h (omega arith);
      indices = λ t l. index_most t;
      levels = level_at;
      first = least;
      tails = λ r l. get_d_up_to (tail_payment n (first_tail_average_of tried) (e ∷ [])) (h + 1) r 0 (omega arith);
      share_most = λ j l. rw (share_at_lem j l) (share_most square h j);
      share_near = λ j l. rw (share_at_lem j l) (exact.share_near D E x y solves j l);
    }

    near : Within (forecast k n p h e i) (pos (get_or n i 0 * (diagonal_of square h * e)) *ℤ x (h + 1 - i)) (payment_over D) (get_or n i 0 * (5 * i + 2) + 100)
    unfolding forecast payment exact_payment payment_allowance
    near =
        let place : i + (h + 1 - i) - h - 1 ≡ 0 = omega arith in
        let year : h + 1 - (h + 1 - i) ≡ i = omega arith in
        let found = payment_near tried (diagonal_of square h) shares levels _ D x basis i (h + 1 - i) inside (omega arith) (omega arith) in
        rw (place, year, share_at_lem (h + 1 - i) (omega arith), level_at 0 (omega arith)) at found

pub fit_near : (k : ℕ) (n : List ℕ) (p : List ℤ) (h : ℕ) → FitNear k n p h
fit_near k n p h few z = exact k n p h few z

pub forecast_near : (k : ℕ) (n : List ℕ) (p : List ℤ) (h : ℕ) → ForecastNear k n p h
forecast_near k n p h few z D E x y solves e i least most some inside = near k n p h few z D E x y solves e i least most some inside
