-- The section of the shares and the levels. Assumes nothing.
use Rattle.std.specs.Prelude.{ℕ, ◌+◌, ◌*◌, Bool, List, ◌++◌, ℤ}
use Rattle.composing.specs.Text.{ascii}
use Rattle.parts.specs.Parts.{only, section_head, section_end, beside_start, beside_end}
use Rattle.listing.specs.Starts.{starts_of}
use Rattle.plot.specs.declared.Series.{Series}
use Rattle.plot.specs.Plot.{plot}
use Rattle.share_tables.specs.Shares.{shares}
use Rattle.level_tables.specs.Levels.{level_table, future_table}

-- the plot's title and description, the word for the axis, and the words of the bars
unfoldable pub level_plot_words : List ℕ
level_plot_words = ascii "Levels by payment year\nA bar for each payment year: dark for the levels found, light for the future levels. The figures are in the tables of levels.\na claim\nfound\nfuture\n"

-- a bar for each of the k + 1 levels found, and for the k future ones right after them
unfoldable pub level_series : ℕ → Series
level_series k = record { start = (starts_of k).levels; stride = 1; bars = 1; split = k + 1; slots = 2 * k + 1 }

-- the plot, on the page of HTML alone: a hundred hundredths make one
unfoldable pub level_plot : Bool → ℕ → ℕ → List ℤ → List ℕ
level_plot html first k xs = only html (plot level_plot_words 100 2 first xs (level_series k))

-- both tables of levels and the plot beside each other
unfoldable pub levels : Bool → ℕ → ℕ → List ℤ → List ℕ
levels html first k xs =
    beside_start html ++ (level_table html first k xs ++ (future_table html first k xs ++ (level_plot html first k xs ++ beside_end html)))

unfoldable pub share_paragraph : List ℕ
share_paragraph = ascii "<p><b>Share:</b> the part of an origin year's payments that falls into a development year; the shares sum to 1. <b>Level:</b> what a whole claim costs at the prices of one payment year. A future level is the latest one raised by its index. <b>Expected payments:</b> completed and tail payments by payment year, a tail payment in the year after the last development year; they add up to the total provision.</p>\n"

-- the section
unfoldable pub shares_section : Bool → ℕ → ℕ → List ℤ → List ℕ
shares_section html first k xs =
    section_head html (ascii "Shares and levels") ++ (only html share_paragraph ++ (shares html k xs ++ (levels html first k xs ++ section_end html)))
