-- What a page asks of the list of a text that has one. Assumes nothing.
use mathlib.Core.Path.{◌≡◌, ◌∙◌}
use mathlib.Core.Bool.{true, cond}
use mathlib.Core.List.{List}
use Prim.Native.Nat.{ℕ, ◌≤◌, ◌<◌, zero-le}
use native.Mathlib.Omega.{arith}
use borrow.Author.Tests.{eqb-true}
use lib.IntN.{ℤ, pos, nat_abs}
use lib.ListN.{replicate}
use lib.Seq.{sets}
use Rattle.rules.specs.Separation.{billion}
use Rattle.rules.specs.History.{most_history_entries, position_count, history_count}
use Rattle.sheet.specs.Sheet.{read_history}
use Rattle.laws.proofs.Joined.{sets_filled, padded_all}
use Rattle.history_questions.specs.Asked.{Widths}
use Rattle.history_questions.proofs.Passed.{accepted_known}
use Rattle.history.proofs.Windows.{list_length}
use Rattle.history_records.proofs.Positions.{list_small}
use Rattle.history_places.specs.Places.{Windowed, Small}
use Rattle.history_run.specs.Listed.{years_of, width_of, exposures_of, increments_of, list_of, has_list}
use Rattle.history_run.proofs.Outcomes.{room, accepted}
use Rattle.history_reports.specs.Reported.{shown_list}

module _ (text : List ℕ) (has : has_list text ≡ true) where
  widths : Widths (years_of text) (width_of text)
  unfolding has_list
  widths =
      (accepted_known (years_of text) (width_of text) (exposures_of text) (increments_of text) (history_count (years_of text) (width_of text))
      (accepted text (eqb-true (read_history text).problem 0 has))).0

  -- the years and the width that were found
  pub windowed : (years width first : ℕ) → years ≡ years_of text → width ≡ width_of text → first < 65536 → Windowed years width first
  windowed years width first e f h =
      rw (e, f)
      record {
        years_most = widths.few;
        width_least = widths.wide;
        width_most_lem = widths.narrow;
        width_fits = widths.within;
        first_most = omega arith;
      }

  -- the list in an array of zeros
  in_zeros : sets (replicate most_history_entries (pos 0)) 0 (list_of text) ≡ shown_list text
  unfolding shown_list list_of history_count position_count
  in_zeros =
      sets_filled most_history_entries (pos 0) (list_of text)
      (omega (arith, list_length (years_of text) (width_of text) (exposures_of text) (increments_of text) widths, room (years_of text) (width_of text) widths))

  pub found_list : (zeros list : List ℤ) → zeros ≡ replicate most_history_entries (pos 0) → list ≡ cond (has_list text) (sets zeros 0 (list_of text)) zeros → list ≡ shown_list text
  found_list zeros list z e = let filled : list ≡ sets zeros 0 (list_of text) = rw has at e in filled ∙ rw z in_zeros

pub list_fits : (text : List ℕ) → Small (shown_list text)
unfolding shown_list list_of
list_fits text =
    padded_all (λ (z : ℤ). nat_abs z ≤ billion) (pos 0) zero-le most_history_entries (pos 0) zero-le (list_of text) (list_small (years_of text) (width_of text) (exposures_of text) (increments_of text))
