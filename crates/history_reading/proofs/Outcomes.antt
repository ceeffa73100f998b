-- The outcomes of taking a history: its text is not as due, or there are numbers. Assumes nothing.
use mathlib.Core.Path.{◌≡◌, refl, sym, ap, ◌∙◌}
use mathlib.Core.Bool.{true}
use mathlib.Core.List.{List, []}
use Prim.Native.Nat.{ℕ, ◌≤◌, ◌<◌}
use native.Mathlib.Omega.{arith}
use borrow.Author.Tests.{eq-eqb, ne_eqb}
use lib.IntN.{ℤ, pos, nat_abs}
use lib.ListN.{length, get_or}
use lib.Seq.{sets}
use Rattle.rules.specs.History.{most_history, most_width}
use Rattle.sheet.specs.Table.{most_numbers}
use Rattle.sheet.specs.Sheet.{last_year_in, read_history}
use Rattle.line_reading.proofs.Known.{text_known}
use Rattle.history_wording.specs.Refused.{wrong_text, history_said}
use Rattle.history_parts.specs.Parts.{width_in}
use Rattle.history_reading.specs.Taken.{history_numbers}
use Rattle.history_reading.proofs.Histories.{stored_at, read_years, read_count, read_width}

module _ (text : List ℕ) where
  -- something is wrong with the text
  pub wrong_taken : ((read_history text).problem ≡ 0 → ⊥)
      → (0 ≡ last_year_in (history_numbers text)) × ((0 ≡ width_in (history_numbers text)) × (wrong_text true (read_history text) ≡ history_said text))
  unfolding history_numbers history_said width_in
  wrong_taken some = rw (ne_eqb (read_history text).problem 0 some) (refl, (refl, refl))

  -- nothing is
  module _ (right : (read_history text).problem ≡ 0) where
    numbers : history_numbers text ≡ (read_history text).numbers
    unfolding history_numbers
    numbers = rw (eq-eqb (read_history text).problem 0 right)

    pub right_few : (last_year_in (history_numbers text) ≤ most_history) × (width_in (history_numbers text) ≤ most_width)
    right_few = rw numbers ((read_years text right).1, (read_width text right).1.0)

    pub right_said : [] ≡ history_said text
    unfolding history_said
    right_said = rw (eq-eqb (read_history text).problem 0 right)

    module _ (list₀ list : List ℤ) (long : length list₀ ≡ most_numbers) (stored : list ≡ sets list₀ 0 (read_history text).numbers) where
      first : (j : ℕ) → j < 2 → get_or list j (pos 0) ≡ get_or (history_numbers text) j (pos 0)
      first j l =
          ap (λ (xs : List ℤ). get_or xs j (pos 0)) stored
          ∙ stored_at list₀ (read_history text).numbers j (omega (arith, long, (text_known true text).most)) (omega (arith, read_count text right))
          ∙ ap (λ (xs : List ℤ). get_or xs j (pos 0)) (sym numbers)

      pub right_years : nat_abs (get_or list 0 (pos 0)) ≡ last_year_in (history_numbers text)
      right_years = ap nat_abs (first 0 (omega arith))

      pub right_width : nat_abs (get_or list 1 (pos 0)) ≡ width_in (history_numbers text)
      unfolding width_in
      right_width = ap nat_abs (first 1 (omega arith))
