-- What the code hands back of a reading. Assumes nothing.
use Rattle.std.specs.Prelude.{ℕ, ◌≤◌, Bool, ◌≡◌, List, ℤ, length}
use Rattle.std.proofs.lemmas.List.Edits.{sets}
use Rattle.composing.specs.Text.{Put}
use Rattle.sheet.specs.declared.Found.{Found}
use Rattle.sheet.specs.Table.{lines_in, start_in, most_first}
use Rattle.sheet.specs.Sheet.{last_year_in, Typed}

abbrev pub found : ℕ → ℕ → ℕ → ℕ → ℕ → ℕ → Found
found p n i c w m = record { problem = p; line = n; place = i; cell = c; word = w; count = m }

-- the reading t: what was found, the numbers in the front of the list, and the word in the lent bytes, as far as they go
pub record Reads (t : Typed) (r : Found) (list₀ list : List ℤ) (word₀ word : List ℕ) : Type 0 where
  pub said : r ≡ found t.problem t.line t.place t.cell r.word (length t.numbers)
  pub stored : list ≡ sets list₀ 0 t.numbers
  pub put : Put word₀ word 0 r.word t.word

-- the numbers vs are those of the lines before a place of a history, or of figures, count of them
pub record Good (history : Bool) (vs : List ℤ) (place count : ℕ) : Type 0 where
  pub size : length vs ≡ count
  pub start : count ≡ start_in history (last_year_in vs) place
  pub within : place ≤ lines_in history (last_year_in vs)
  pub few : last_year_in vs ≤ most_first history
  pub some : 1 ≤ place → 1 ≤ last_year_in vs
