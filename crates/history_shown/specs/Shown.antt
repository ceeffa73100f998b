-- What the page and the comma-separated values of a history show, which read its list by position and entry: entry e of position a is that of the window's separation.
-- Assumes nothing.
use Rattle.std.specs.Prelude.{ℕ, ◌+◌, ◌*◌, ◌<◌, ◌≡◌, List, ℤ, pos, get_or, take}
use Rattle.rules.specs.History.{position_of, position_count, history_count, history_list}
use Rattle.history_places.specs.Places.{Windowed, position_entry}

-- of a list that begins with that of a history
abbrev pub EntriesShown : ℕ → ℕ → ℕ → List ℕ → List ℤ → List ℤ → Type 0
EntriesShown years width first n p list =
    Windowed years width first
    → take (history_count years width) list ≡ history_list years width n p
    → (a e : ℕ)
    → a < position_count years width
    → e < 1 + 2 * width
    → position_entry list width a e ≡ get_or (position_of years width n p a) e (pos 0)
