-- The comma-separated values of a hindsight run are shorter than their buffer: at most an index, 14 steps of 15 lines and a sum for each of at most eight settings. Assumes nothing.
use mathlib.Core.Bool.{Bool, true, false}
use mathlib.Core.List.{List}
use Prim.Native.Nat.{ℕ, ◌+◌, ◌-◌, ◌≤◌, ◌<◌}
use native.Mathlib.Omega.{arith}
use lib.IntN.{ℤ, pos, nat_abs}
use lib.ListN.{length, get_or, length-append}
use Rattle.composing.specs.Text.{ascii, integer}
use Rattle.composing.proofs.Decimals.{length_most, length_sign}
use Rattle.plot_lengths.proofs.Drawn.{joined_most}
use Rattle.csv_rows.specs.Csv.{year_text, csv_line}
use Rattle.csv_rows.specs.Units.{currency}
use Rattle.hindsight_places.specs.Places.{Tried, mark_at, gap_at, sum_at, best_at}
use Rattle.hindsight_csv.specs.Csv.{setting_line, index_line, mark_line, gap_line, step_lines, sum_line, setting_lines, best_line, hindsight_csv}
use Rattle.hindsight_csv_lengths.specs.Text.{most_hindsight_csv}

shown_most : (shown : Bool) (y : ℕ) → length (year_text shown y) ≤ 20
unfolding year_text
shown_most true y = length_most y
shown_most false y = omega arith

-- a line, by its words
line_most : (name unit : List ℕ) (setting : ℕ) (paid origin : Bool) (y i : ℕ) (z : ℤ) → length (setting_line name unit setting paid origin y i z) ≤ 87 + length name + length unit
unfolding setting_line csv_line integer
line_most name unit setting paid origin y i z =
    simp length-append (omega (arith, length_most setting, shown_most paid y, shown_most origin i, length_sign z, length_most (nat_abs z)))

index_most : (settings : List ℕ) (a : ℕ) → length (index_line settings a) ≤ 102
unfolding index_line
index_most settings a = line_most (ascii "index") (ascii "millionths") (a + 1) false false 0 0 (pos (get_or settings a 0))

module _ (first : ℕ) (list : List ℤ) (k : ℕ) where
  mark_most : (a h : ℕ) → length (mark_line first list k a h) ≤ 99
  unfolding mark_line
  mark_most a h = line_most (ascii "mark") (ascii "question") (a + 1) true false (first + h + 1) 0 (pos (mark_at list k h))

  gap_most : (a h i : ℕ) → length (gap_line first list k a h i) ≤ 104
  unfolding gap_line
  gap_most a h i = line_most (ascii "gap") currency (a + 1) true true (first + h + 1) (first + i) (gap_at list k a h i)

  sum_most : (a : ℕ) → length (sum_line list k a) ≤ 104
  unfolding sum_line
  sum_most a = line_most (ascii "sum") currency (a + 1) false false 0 0 (pos (sum_at list k a))

  best_most : (n : ℕ) → length (best_line list k n) ≤ 103
  unfolding best_line
  best_most n = line_most (ascii "best") (ascii "place from 0") (best_at list k n + 1) false false 0 0 (pos (best_at list k n))

  -- a step has at most 14 gaps
  step_most : (a h : ℕ) → h ≤ 14 → length (step_lines first list k a h) ≤ 1555
  unfolding step_lines
  step_most a h few =
      simp length-append (omega (arith, mark_most a h, joined_most (λ m. gap_line first list k a h (m + 1)) 104 h (λ m l. gap_most a h (m + 1))))

  -- and a setting at most 14 steps
  setting_most : k ≤ 15 → (a : ℕ) → length (setting_lines first list k a) ≤ 21874
  unfolding setting_lines
  setting_most few a =
      simp length-append
      (omega (arith, joined_most (λ m. step_lines first list k a (k - 1 - m)) 1555 (k - 1) (λ m l. step_most a (k - 1 - m) (omega arith)), sum_most a))

pub csv_most : (first k n : ℕ) (settings : List ℕ) (list : List ℤ) → Tried k n first → length (hindsight_csv first k n settings list) < most_hindsight_csv
unfolding hindsight_csv
csv_most first k n settings list t =
    let indices = joined_most (index_line settings) 102 n (λ a h. index_most settings a) in
    let lines = joined_most (setting_lines first list k) 21874 n (λ a h. setting_most first list k t.k_most a) in
    simp length-append (omega (arith, indices, lines, best_most first list k n, t.settings_most))
