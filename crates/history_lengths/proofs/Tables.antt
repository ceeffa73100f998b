-- How long the tables of a history are at most: four of sixteen rows and seventeen columns. Assumes nothing.
use mathlib.Core.Bool.{Bool, false}
use mathlib.Core.List.{List, []}
use Prim.Native.Nat.{ℕ, ◌+◌, ◌*◌, ◌≤◌}
use native.Mathlib.Nat.{mul-le-mul_left}
use native.Mathlib.Omega.{arith}
use lib.IntN.{ℤ}
use lib.ListN.{length}
use Rattle.rules.specs.History.{position_count}
use Rattle.lines.proofs.Longest.{longest_from}
use Rattle.plot_lengths.proofs.Drawn.{joined_most}
use Rattle.table_heads.specs.Heads.{rows_in}
use Rattle.table_lengths.proofs.Most.{table_most}
use Rattle.table_lengths.proofs.Tables.{table_most_lem}
use Rattle.history_places.specs.Places.{Windowed}
use Rattle.history_grid.specs.Grid.{grid_values, grid_styles}
use Rattle.history_tables.specs.Tables.{position_rows, history_table, rows_from, table_count, history_tables, share_words, level_words, share_tables, level_tables}

-- one table
one_most : (html : Bool) (words : List ℕ) (first : ℕ) (list : List ℤ) (width offset d from n b : ℕ) → width ≤ 16 → n ≤ 16 → table_most words [] [] 16 17 ≤ b
    → length (history_table html words first list width offset d from n) ≤ b
unfolding history_table position_rows rows_in
one_most html words first list width offset d from n b h l most =
    omega
    (arith, table_most_lem html false words [] [] (position_rows width (first + from) n) (grid_values list width offset from n) (grid_styles list width d from n) 16 17 (omega arith) (omega arith))

module _ (html : Bool) (first years width : ℕ) (list : List ℤ) (w : Windowed years width first) where
  -- how many tables there are
  few : table_count (position_count years width) ≤ 4
  unfolding table_count position_count
  few = omega (arith, w.years_most, w.width_least)

  -- all of them
  all_most : (words : List ℕ) (offset d b : ℕ) → table_most words [] [] 16 17 ≤ b → length (history_tables html words first years width list offset d) ≤ b * 4
  unfolding history_tables rows_from
  all_most words offset d b most =
      let n = table_count (position_count years width) in
      omega
      (arith, joined_most (λ t. history_table html words first list width offset d (16 * t) (rows_from (position_count years width) (16 * t))) b n (λ t l. one_most html words first list width offset d (16 * t) (rows_from (position_count years width) (16 * t)) b w.width_most_lem (omega arith) most), mul-le-mul_left {m = n} {n = 4} b few)

  pub share_tables_most : length (share_tables html first years width list) ≤ 120000
  unfolding share_tables share_words table_most longest_from
  share_tables_most = all_most share_words 1 9 30000 (omega arith)

  pub level_tables_most : length (level_tables html first years width list) ≤ 120000
  unfolding level_tables level_words table_most longest_from
  level_tables_most = all_most level_words (1 + width) 2 30000 (omega arith)
