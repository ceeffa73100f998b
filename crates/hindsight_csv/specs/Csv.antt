-- The settings of a hindsight run and its report as comma-separated values: a line for each setting, and one for each entry in the report's order. Settings are counted from 1, and years from the first origin
-- year on. Assumes nothing.
use Rattle.std.specs.Prelude.{ℕ, ◌+◌, ◌-◌, Bool, true, false, List, [], ◌++◌, ℤ, pos, get_or}
use Rattle.rules.specs.Lists.{up_to, joined}
use Rattle.composing.specs.Text.{ascii, decimal}
use Rattle.csv_rows.specs.Csv.{csv_line}
use Rattle.csv_rows.specs.Units.{currency}
use Rattle.hindsight_places.specs.Places.{mark_at, gap_at, sum_at, best_at}

-- a line: the name of the section, the setting, the payment year y and the origin year i where they are shown, the value, and its unit
unfoldable pub setting_line : List ℕ → List ℕ → ℕ → Bool → Bool → ℕ → ℕ → ℤ → List ℕ
setting_line name unit setting paid origin y i z = name ++ (ascii "," ++ (decimal setting ++ csv_line [] unit paid origin y i z))

-- the index of setting a
unfoldable pub index_line : List ℕ → ℕ → List ℕ
index_line settings a = setting_line (ascii "index") (ascii "millionths") (a + 1) false false 0 0 (pos (get_or settings a 0))

-- the mark of step h in setting a, which forecasts payment year h + 1
unfoldable pub mark_line : ℕ → List ℤ → ℕ → ℕ → ℕ → List ℕ
mark_line first list k a h = setting_line (ascii "mark") (ascii "question") (a + 1) true false (first + h + 1) 0 (pos (mark_at list k h))

-- its gap in origin year i
unfoldable pub gap_line : ℕ → List ℤ → ℕ → ℕ → ℕ → ℕ → List ℕ
gap_line first list k a h i = setting_line (ascii "gap") currency (a + 1) true true (first + h + 1) (first + i) (gap_at list k a h i)

-- the step: the mark, and the gaps of origin years 1 to h
unfoldable pub step_lines : ℕ → List ℤ → ℕ → ℕ → ℕ → List ℕ
step_lines first list k a h = mark_line first list k a h ++ joined (up_to (λ m. gap_line first list k a h (m + 1)) h)

-- the setting's sum of absolute gaps
unfoldable pub sum_line : List ℤ → ℕ → ℕ → List ℕ
sum_line list k a = setting_line (ascii "sum") currency (a + 1) false false 0 0 (pos (sum_at list k a))

-- setting a: its steps, of last years k − 1 down to 1, and its sum
unfoldable pub setting_lines : ℕ → List ℤ → ℕ → ℕ → List ℕ
setting_lines first list k a = joined (up_to (λ m. step_lines first list k a (k - 1 - m)) (k - 1)) ++ sum_line list k a

-- the best of n settings, by its number in the other lines and by its place in the report
unfoldable pub best_line : List ℤ → ℕ → ℕ → List ℕ
best_line list k n = setting_line (ascii "best") (ascii "place from 0") (best_at list k n + 1) false false 0 0 (pos (best_at list k n))

-- the whole, under a heading
unfoldable pub hindsight_csv : ℕ → ℕ → ℕ → List ℕ → List ℤ → List ℕ
hindsight_csv first k n settings list =
    ascii "section,setting,payment year,origin year,value,unit\n"
    ++ (joined (up_to (index_line settings) n) ++ (joined (up_to (setting_lines first list k) n) ++ best_line list k n))
