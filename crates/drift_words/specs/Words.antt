-- The words of the plot of a development year's share by position, lines of one text: the title, the description, the word for the axis, and no legend. Assumes nothing.
use Rattle.std.specs.Prelude.{ℕ, Bool, cond, List, ◌++◌}
use Rattle.composing.specs.Text.{ascii, decimal}

-- more than they are long
abbrev pub most_words : ℕ
most_words = 256

-- the axis is in percent, or in thousandths of one
unfoldable pub axis_word : Bool → List ℕ
axis_word percent = cond percent (ascii "percent\n\n\n") (ascii "thousandths of a percent\n\n\n")

unfoldable pub drift_words : ℕ → Bool → List ℕ
drift_words j percent =
    ascii "Share of development year "
    ++ (decimal j
    ++ (ascii " by position\nA bar for each position that is not refused, by its first origin year. The figures are in the tables of shares.\n" ++ axis_word percent))
