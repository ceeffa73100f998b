-- Every position of an accepted history has a record: with plain assumptions the writer takes what is cut out. Assumes nothing.
use mathlib.Core.Path.{◌≡◌, refl, sym, ap, ◌∙◌}
use mathlib.Core.Bool.{true}
use mathlib.Core.List.{List, map}
use Prim.Native.Nat.{ℕ, ◌+◌, ◌-◌, ◌≤◌, ◌<◌, zero-le}
use native.Mathlib.Omega.{arith}
use borrow.Author.Tests.{le-leb}
use lib.IntN.{ℤ, pos, nat_abs}
use lib.ListN.{length, get_or}
use Rattle.rules.specs.Lists.{up_to, joined, every}
use Rattle.rules.specs.Record.{million, most_amount, exposure, increment, cells, in_range}
use Rattle.rules.specs.Triangle.{row_start}
use Rattle.rules.specs.History.{history_paid, window_exposures, window_increments, position_count, history_answer}
use Rattle.laws.proofs.Lists.{length_up_to, map_up_to, every_yes}
use Rattle.laws.proofs.Joined.{past_length, joined_all, up_to_all}
use Rattle.laws.proofs.TriangleRows.{rows_all}
use Rattle.history_questions.specs.Asked.{Widths, History}
use Rattle.history_questions.proofs.Passed.{exposure_range, increment_range, accepted_known}
use Rattle.history_records.specs.Records.{HasRecord}
use Rattle.history_records.proofs.Plain.{every_place, Ranged, plainly, plainly_taken}

module _ (years width : ℕ) (n : List ℕ) (p : List ℤ) (a m : ℕ) (widths : Widths years width) (known : History years width n p m) (inside : a + width ≤ years) where
  exposures_range : every (in_range exposure) (map pos (window_exposures width n a)) ≡ true
  unfolding window_exposures
  exposures_range =
      ap (every (in_range exposure)) (map_up_to pos (λ i. get_or n (a + i) 0) width)
      ∙ every_yes (in_range exposure) (λ i. pos (get_or n (a + i) 0)) width
      (λ i l. let claims = known.claims (a + i) (omega arith) in
      exposure_range (get_or n (a + i) 0) ∙ rw (le-leb 1 (get_or n (a + i) 0) claims.0, le-leb (get_or n (a + i) 0) million claims.1) refl)

  increments_range : every (in_range increment) (window_increments years width p a) ≡ true
  unfolding window_increments history_paid
  increments_range =
      every_place (in_range increment) (window_increments years width p a)
      (joined_all (λ (z : ℤ). in_range increment z ≡ true) (pos 0) (increment_range (pos 0) ∙ le-leb 0 most_amount zero-le) (λ i. up_to (history_paid years p (a + i)) (width - i)) width
      (λ i j l. up_to_all (λ (z : ℤ). in_range increment z ≡ true) (pos 0) (increment_range (pos 0) ∙ le-leb 0 most_amount zero-le) (history_paid years p (a + i)) (width - i)
      (λ c h. increment_range _ ∙ le-leb _ most_amount (known.amounts _)) j))

  abbrev k : ℕ
  k = width - 1

  increments_long : length (window_increments years width p a) ≡ cells k
  unfolding window_increments
  increments_long =
      let e : k + 1 ≡ width = omega (arith, widths.wide) in
      past_length (λ i. up_to (history_paid years p (a + i)) (width - i)) k (λ i. length_up_to (history_paid years p (a + i)) (width - i) ∙ omega (arith, e)) width
      ∙ ap (row_start k) (sym e)
      ∙ rows_all k

  exposures_long : length (window_exposures width n a) ≡ k + 1
  unfolding window_exposures
  exposures_long = length_up_to (λ i. get_or n (a + i) 0) width ∙ omega (arith, widths.wide)

  ranged : Ranged k (window_exposures width n a) (window_increments years width p a)
  ranged = record {
    some = omega (arith, widths.wide);
    few = omega (arith, widths.narrow);
    exposures_long = exposures_long;
    increments_long = increments_long;
    exposures_range = exposures_range;
    increments_range = increments_range;
  }

pub has_record : (years width : ℕ) (n : List ℕ) (p : List ℤ) (a : ℕ) → HasRecord years width n p a
unfolding position_count
has_record years width n p a m zeroed few =
    let both = accepted_known years width n p m zeroed in
    let cut = ranged years width n p a m both.0 both.1 (omega (arith, both.0.within)) in
    (plainly _ _ _ cut 1 (omega arith) (omega arith), (record { last = refl; exposures = refl; increments = refl }, plainly_taken _ _ _ cut 1 (omega arith) (omega arith)))
