-- The outcomes of a text: it is not as due, or it has a list, which the call fills. Assumes nothing.
use mathlib.Core.Path.{◌≡◌, refl}
use mathlib.Core.Bool.{true, false}
use mathlib.Core.List.{List}
use Prim.Native.Nat.{ℕ, ◌+◌, ◌-◌, ◌*◌, ◌≤◌}
use native.Mathlib.Omega.{arith}
use borrow.Author.Tests.{eq-eqb, ne_eqb}
use lib.IntN.{ℤ}
use lib.ListN.{length}
use lib.Seq.{sets}
use Rattle.rules.specs.History.{most_history_entries, history_count, history_list, history_answer}
use Rattle.sheet.specs.Table.{most_numbers}
use Rattle.sheet.specs.Sheet.{read_history}
use Rattle.history_questions.specs.Asked.{Widths}
use Rattle.history_places.proofs.Inside.{entry_inside}
use Rattle.history_parts.specs.Parts.{exposures_after, increments_after}
use Rattle.history_reading.specs.Taken.{history_numbers}
use Rattle.history_reading.proofs.Histories.{read_answer, stored_exposures, stored_increments}
use Rattle.history_run.specs.Listed.{years_of, width_of, exposures_of, increments_of, list_of, has_list}

-- a history that is accepted has a list of at most 1,617 entries
pub room : (years width : ℕ) → Widths years width → (years - width + 1) * (1 + 2 * width) ≤ most_history_entries
room years width k = omega (arith, entry_inside width (years - width) (2 * width) (omega (arith, k.few, k.within), k.narrow) (omega arith))

module _ (text : List ℕ) where
  -- it is not as due
  pub wrong : ((read_history text).problem ≡ 0 → ⊥) → has_list text ≡ false
  unfolding has_list
  wrong some = ne_eqb (read_history text).problem 0 some

  module _ (right : (read_history text).problem ≡ 0) where
    -- it has a list
    pub listed : has_list text ≡ true
    unfolding has_list
    listed = eq-eqb (read_history text).problem 0 right

    numbers : history_numbers text ≡ (read_history text).numbers
    unfolding history_numbers
    numbers = rw (eq-eqb (read_history text).problem 0 right)

    -- that the call fills, with a result as long as needed
    pub accepted : history_answer (years_of text) (width_of text) (exposures_of text) (increments_of text) (history_count (years_of text) (width_of text)) ≡ 0
    accepted = rw numbers (read_answer text right)

    -- that of the numbers that were stored
    module _ (list₀ list : List ℤ) (long : length list₀ ≡ most_numbers) (stored : list ≡ sets list₀ 0 (read_history text).numbers) where
      pub exposures_stored : exposures_after (years_of text) list ≡ exposures_of text
      exposures_stored = rw (stored, numbers) (stored_exposures text right list₀ long)

      pub increments_stored : increments_after (years_of text) list ≡ increments_of text
      increments_stored = rw (stored, numbers) (stored_increments text right list₀ long)

      pub stored_answer :
          history_answer (years_of text) (width_of text) (exposures_after (years_of text) list) (increments_after (years_of text) list) (history_count (years_of text) (width_of text)) ≡ 0
      stored_answer = rw (exposures_stored, increments_stored) accepted

      pub stored_list : history_list (years_of text) (width_of text) (exposures_after (years_of text) list) (increments_after (years_of text) list) ≡ list_of text
      unfolding list_of
      stored_list = rw (exposures_stored, increments_stored) refl
