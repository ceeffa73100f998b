-- A section of the result list cut into rows, an entry after another. The first row has `blank` columns left blank and then `count` entries. Each next row
-- has `up` entries more, which take the place of blank columns, or `down` entries fewer. Assumes nothing.
use Rattle.std.specs.Prelude.{ℕ, zero, suc, ◌+◌, ◌-◌, List, [], ◌++◌, ℤ, pos, get_or}
use Rattle.rows.specs.declared.Rows.{Rows}

-- entry p of the list
abbrev pub entry : List ℤ → ℕ → ℤ
entry list p = get_or list p (pos 0)

-- n entries in the first row, and in each next row one fewer
abbrev pub falling : ℕ → Rows
falling n = record { blank = 0; count = n; up = 0; down = 1 }

-- n blank columns in the first row, and in each next row one entry more at the right
abbrev pub rising : ℕ → Rows
rising n = record { blank = n; count = 0; up = 1; down = 0 }

-- m entries in each row, after n blank columns
abbrev pub level : ℕ → ℕ → Rows
level n m = record { blank = n; count = m; up = 0; down = 0 }

-- the row after a row of r
unfoldable pub next_row : Rows → Rows
next_row r = record { blank = r.blank - r.up; count = r.count + r.up - r.down; up = r.up; down = r.down }

-- n rows for the years from y on, each as f has it, from its year, its blank columns, how many entries it has and the place of the first
unfoldable pub rows_by : (ℕ → ℕ → ℕ → ℕ → List ℕ) → ℕ → ℕ → Rows → ℕ → List ℕ
rows_by f zero y r p = []
rows_by f (suc n) y r p = f y r.blank r.count p ++ rows_by f n (suc y) (next_row r) (p + r.count)

-- how many entries n rows have
unfoldable pub entries_in : ℕ → Rows → ℕ
entries_in zero r = 0
entries_in (suc n) r = r.count + entries_in n (next_row r)
