-- The shares by development year: a table beside a plot. Assumes nothing.
use Rattle.std.specs.Prelude.{ℕ, ◌+◌, Bool, List, [], ◌∷◌, ◌++◌, ℤ}
use Rattle.rules.specs.Lists.{padded}
use Rattle.composing.specs.Text.{ascii}
use Rattle.parts.specs.Parts.{beside_start, beside_end}
use Rattle.listing.specs.Starts.{starts_of}
use Rattle.figure_places.specs.Places.{added_at}
use Rattle.column_table.specs.ColumnTable.{year_rows, column_table}
use Rattle.column_plot.specs.ColumnPlot.{column_plot}

-- the caption, the head over the development years, and the heads of the columns
unfoldable pub share_words : List ℕ
share_words = ascii "Shares and running shares\ndevelopment year\nshare\nrunning share\n"

-- the table: the shares, with their sum, and the running shares, all with nine decimals
unfoldable pub share_table : Bool → ℕ → List ℤ → List ℕ
share_table html k xs =
    column_table html share_words (ascii "total") (year_rows 0 (k + 1) 2) (padded 12 0 ((starts_of k).shares ∷ (added_at k).running ∷ [])) (padded 12 0 (9 ∷ 9 ∷ [])) 0 1 xs

-- the plot's title and description, the word for the axis, and the words of the bars
unfoldable pub share_plot_words : List ℕ
share_plot_words = ascii "Shares by development year\nFor each development year a dark bar, its share, and a light bar, the running share. The figures are in the table of shares.\npercent\nshare\nrunning share\n"

-- the plot: ten million billionths make one percent
unfoldable pub share_plot : Bool → ℕ → List ℤ → List ℕ
share_plot html k xs = column_plot html share_plot_words 10000000 9 0 (k + 1) (starts_of k).shares (added_at k).running xs

-- beside each other
unfoldable pub shares : Bool → ℕ → List ℤ → List ℕ
shares html k xs = beside_start html ++ (share_table html k xs ++ (share_plot html k xs ++ beside_end html))
