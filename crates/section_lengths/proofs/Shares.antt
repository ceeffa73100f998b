-- How long the section of the shares and the levels is at most. Assumes nothing.
use mathlib.Core.Path.{◌≡◌, refl}
use mathlib.Core.Bool.{Bool}
use mathlib.Core.List.{List}
use Prim.Native.Nat.{ℕ, ◌+◌, ◌≤◌, ◌<◌}
use native.Mathlib.Omega.{arith}
use lib.IntN.{ℤ}
use lib.ListN.{length, length-append}
use Rattle.lines.proofs.Longest.{longest_from}
use Rattle.listing.specs.Starts.{starts_of}
use Rattle.vectors.specs.Vectors.{most_figures}
use Rattle.figure_places.specs.Places.{added_at}
use Rattle.page_figures.specs.Given.{Figured}
use Rattle.page_figures.proofs.Numbers.{numbers}
use Rattle.parts.proofs.Lengths.{section_end_most, beside_start_most, beside_end_most}
use Rattle.table_lengths.proofs.Most.{table_most}
use Rattle.share_tables.specs.Shares.{share_words, share_table, share_plot_words, share_plot, shares}
use Rattle.level_tables.specs.Levels.{level_words, future_words, level_table, future_table}
use Rattle.share_section.specs.ShareSection.{level_plot_words, level_series, level_plot, levels, share_paragraph, shares_section}
use Rattle.share_section.proofs.Bars.{level_plotted}
use Rattle.section_lengths.proofs.Tables.{years_most, column_most}
use Rattle.section_lengths.proofs.Opened.{opened_most}
use Rattle.section_lengths.proofs.Plots.{only_plot_most, pair_most}

module _ (html : Bool) (first k : ℕ) (xs : List ℤ) (h : k < 16) where
  -- the tables
  share_table_most : length (share_table html k xs) ≤ 5000
  unfolding share_table share_words table_most longest_from
  share_table_most = column_most html _ _ _ k 2 _ _ _ _ xs 5000 h (omega arith)

  level_table_most_lem : length (level_table html first k xs) ≤ 5000
  unfolding level_table level_words table_most longest_from
  level_table_most_lem = years_most html _ _ _ _ _ 2 5000 (omega arith) (omega arith) (omega arith)

  future_table_most : length (future_table html first k xs) ≤ 8600
  unfolding future_table future_words table_most longest_from
  future_table_most = years_most html _ _ _ _ _ 4 8600 (omega arith) (omega arith) (omega arith)

  module _ (l : first ≤ 65535) (figured : Figured k xs) (long : length xs ≡ most_figures) where
    -- the plots
    share_plot_most : length (share_plot html k xs) ≤ 7200
    unfolding share_plot share_plot_words
    share_plot_most =
        let here = numbers (added_at k) (starts_of k) k h refl refl in
        pair_most html _ _ _ _ k _ _ xs 7200 (omega arith) (omega arith) (omega arith) h figured (omega arith) (omega arith) (omega arith)

    level_plot_most : length (level_plot html first k xs) ≤ 11200
    unfolding level_plot level_plot_words level_series
    level_plot_most =
        only_plot_most html _ _ _ _ xs _ 31 11200 (omega arith) (omega arith) (omega arith) (omega arith) (omega arith) (level_plotted k (k + 1) xs h figured long) (omega arith)

    pub shares_most : length (shares_section html first k xs) ≤ 38000
    unfolding shares_section share_paragraph shares levels
    shares_most =
        opened_most html _ _ _ 37100 38000
        (simp length-append
        (omega
        (arith, beside_start_most html, share_table_most, share_plot_most, beside_end_most html, level_table_most_lem, future_table_most, level_plot_most, section_end_most html)))
        (omega arith)
