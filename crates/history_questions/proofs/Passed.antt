-- What is known of a history where questions 27 and 28 say yes. Assumes nothing.
use mathlib.Core.Path.{◌≡◌, refl}
use mathlib.Core.Bool.{Bool, true, ◌&&◌}
use mathlib.Core.List.{List}
use Prim.Native.Nat.{ℕ, ◌≤◌, ◌<◌, zero-le}
use native.Mathlib.Decide.{dec_lt}
use native.Mathlib.Omega.{arith}
use borrow.Author.Tests.{le-leb, leb-true, eqb-true}
use lib.Dec.{leb, eqb}
use lib.IntN.{ℤ, pos, nat_abs}
use lib.ListN.{length, get_or, get_or-eq_default}
use Rattle.rules.specs.Lists.{every, between}
use Rattle.rules.specs.Record.{million, most_amount, in_range, exposure, increment}
use Rattle.rules.specs.History.{most_history, least_width, most_width, history_cells, history_count, width_passes, lengths_pass, history_passes, history_questions, history_answer}
use Rattle.laws.proofs.Lists.{both_left, both_right, every_at}
use Rattle.laws.proofs.Questions.{yes_at}
use Rattle.history_questions.specs.Asked.{Widths, History}

-- an exposure and an increment in its range
pub exposure_range : (x : ℕ) → in_range exposure (pos x) ≡ between 1 million x
unfolding in_range
exposure_range x = refl

pub increment_range : (z : ℤ) → in_range increment z ≡ leb (nat_abs z) most_amount
unfolding in_range
increment_range z = rw (le-leb 0 (nat_abs z) zero-le) refl

module _ (years width : ℕ) where
  -- 27
  pub widths_known : width_passes years width ≡ true → Widths years width
  unfolding width_passes
  widths_known h =
      let rest = both_right (leb years most_history) (between least_width most_width width && leb width years) h in
      let range = both_left (between least_width most_width width) (leb width years) rest in
      record {
        few = leb-true years most_history (both_left (leb years most_history) (between least_width most_width width && leb width years) h);
        wide = leb-true least_width width (both_left (leb least_width width) (leb width most_width) range);
        narrow = leb-true width most_width (both_right (leb least_width width) (leb width most_width) range);
        within = leb-true width years (both_right (between least_width most_width width) (leb width years) rest);
      }

  module _ (n : List ℕ) (p : List ℤ) (m : ℕ) where
    abbrev ranges : Bool
    ranges = every (λ x. in_range exposure (pos x)) n && every (in_range increment) p

    lengths : history_passes years width n p m ≡ true → lengths_pass years width n p m ≡ true
    unfolding history_passes
    lengths h = both_left (lengths_pass years width n p m) ranges h

    ranged : history_passes years width n p m ≡ true → ranges ≡ true
    unfolding history_passes
    ranged h = both_right (lengths_pass years width n p m) ranges h

    exposure_at : history_passes years width n p m ≡ true → (i : ℕ) → i < length n → (1 ≤ get_or n i 0) × (get_or n i 0 ≤ million)
    exposure_at h i l =
        let e : between 1 million (get_or n i 0) ≡ true
        = rw (exposure_range (get_or n i 0)) at (every_at (λ x. in_range exposure (pos x)) n i 0 l (both_left (every (λ x. in_range exposure (pos x)) n) (every (in_range increment) p) (ranged h))) in
        (leb-true 1 (get_or n i 0) (both_left (leb 1 (get_or n i 0)) (leb (get_or n i 0) million) e), leb-true (get_or n i 0) million (both_right (leb 1 (get_or n i 0)) (leb (get_or n i 0) million) e))

    increment_at : history_passes years width n p m ≡ true → (i : ℕ) → nat_abs (get_or p i (pos 0)) ≤ most_amount
    increment_at h i = go (dec_lt i (length p))
      where
        go : Dec (i < length p) → nat_abs (get_or p i (pos 0)) ≤ most_amount
        go (yes l) =
            let e : leb (nat_abs (get_or p i (pos 0))) most_amount ≡ true
            = rw (increment_range (get_or p i (pos 0))) at (every_at (in_range increment) p i (pos 0) l (both_right (every (λ x. in_range exposure (pos x)) n) (every (in_range increment) p) (ranged h))) in
            leb-true (nat_abs (get_or p i (pos 0))) most_amount e
        go (no l) = rw (get_or-eq_default p (pos 0) {n = i} (omega arith)) zero-le

    -- 28
    pub history_known : history_passes years width n p m ≡ true → History years width n p m
    unfolding lengths_pass
    history_known h =
        let rest = both_right (eqb (length n) years) (eqb (length p) (history_cells years) && eqb m (history_count years width)) (lengths h) in
        let long = eqb-true (length n) years (both_left (eqb (length n) years) (eqb (length p) (history_cells years) && eqb m (history_count years width)) (lengths h)) in
        record {
          exposures = long;
          cells = eqb-true (length p) (history_cells years) (both_left (eqb (length p) (history_cells years)) (eqb m (history_count years width)) rest);
          entries = eqb-true m (history_count years width) (both_right (eqb (length p) (history_cells years)) (eqb m (history_count years width)) rest);
          claims = λ i l. exposure_at h i (omega arith);
          amounts = increment_at h;
        }

    -- both, where the answer is 0
    pub accepted_known : history_answer years width n p m ≡ 0 → Widths years width × History years width n p m
    unfolding history_answer history_questions every
    accepted_known h =
        (widths_known (yes_at (history_questions years width n p m) refl h 0), history_known (yes_at (history_questions years width n p m) refl h 1))
