-- The history that a text has, and the list of its positions. Assumes nothing.
use Rattle.std.specs.Prelude.{ℕ, Bool, List, eqb, ℤ}
use Rattle.rules.specs.History.{history_list}
use Rattle.sheet.specs.Sheet.{last_year_in, read_history}
use Rattle.history_parts.specs.Parts.{width_in, exposures_after, increments_after}
use Rattle.history_reading.specs.Taken.{history_numbers}

-- its years, its width, its exposures and its increments
abbrev pub years_of : List ℕ → ℕ
years_of text = last_year_in (history_numbers text)

abbrev pub width_of : List ℕ → ℕ
width_of text = width_in (history_numbers text)

abbrev pub exposures_of : List ℕ → List ℕ
exposures_of text = exposures_after (years_of text) (history_numbers text)

abbrev pub increments_of : List ℕ → List ℤ
increments_of text = increments_after (years_of text) (history_numbers text)

-- the list that the call fills for it
unfoldable pub list_of : List ℕ → List ℤ
list_of text = history_list (years_of text) (width_of text) (exposures_of text) (increments_of text)

-- whether a text has a list: it is as due, and then the call accepts its history (proofs/Outcomes.antt, `accepted`)
unfoldable pub has_list : List ℕ → Bool
has_list text = eqb (read_history text).problem 0
