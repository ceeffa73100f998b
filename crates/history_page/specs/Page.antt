-- The page of a history: the shares of its positions in tables and, in HTML, how each drifts in a plot, their levels, and what the numbers of refused positions mean.
-- Assumes nothing.
use Rattle.std.specs.Prelude.{ℕ, ◌+◌, ◌-◌, Bool, cond, List, ◌++◌, eqb, ℤ, length}
use Rattle.rules.specs.History.{position_count}
use Rattle.composing.specs.Text.{ascii, decimal}
use Rattle.parts.specs.Parts.{either, only, section_head, section_end}
use Rattle.page_frame.specs.Frame.{start_with, page_end}
use Rattle.history_tables.specs.Tables.{share_tables, level_tables}
use Rattle.drift_plot.specs.Drift.{drift}
use Rattle.history_refusals.specs.Refusals.{refusal_section}

-- the start, with a title of its own where none is given; a sheet's foot has the first origin year
unfoldable pub history_page_start : Bool → List ℕ → ℕ → List ℕ
history_page_start html title first =
    start_with html (cond (eqb (length title) 0) (ascii "Shares through a history") title) (ascii "history of the origin years from ") first

-- the origin years, and the width of the windows
unfoldable pub history_years : Bool → ℕ → ℕ → List ℕ
history_years html first years =
    either html (ascii "<p>Doonamurk 1.0. History of the origin years <b>") (ascii "Doonamurk 1.0, history of the origin years ")
    ++ (decimal first ++ (ascii " to " ++ decimal (first + (years - 1))))

unfoldable pub history_width : Bool → ℕ → List ℕ
history_width html width =
    either html (ascii "</b>, windows of ") (ascii ", windows of ")
    ++ (decimal width ++ either html (ascii " years. Shares are parts of 1, with nine decimals; levels are amounts a claim, with two.</p>\n") (ascii " years\n"))

unfoldable pub history_opening : Bool → ℕ → ℕ → ℕ → List ℕ
history_opening html first years width = history_years html first years ++ history_width html width

-- the shares
unfoldable pub share_paragraph : List ℕ
share_paragraph = ascii "<p><b>Position:</b> a window of origin years, taken as a record of its own: the cells inside it that were paid by its last year. The next position begins one origin year later, up to the latest payment year. A row has the shares of a position, the part of an origin year's payments that falls into each development year; down a column it is seen how a share drifts. A position that does not pass questions 7 to 10 has the number of the first that refuses it, and no shares or levels.</p>\n"

unfoldable pub share_section : Bool → ℕ → ℕ → ℕ → List ℤ → List ℕ
share_section html first years width list =
    section_head html (ascii "Shares through the history")
    ++ (only html share_paragraph ++ (share_tables html first years width list ++ (drift html first years width list ++ section_end html)))

-- the levels
unfoldable pub level_paragraph : List ℕ
level_paragraph = ascii "<p><b>Level:</b> what a whole claim costs at the prices of one payment year. The columns are the payment years of a position, counted from its first origin year, which is payment year 0.</p>\n"

unfoldable pub level_section : Bool → ℕ → ℕ → ℕ → List ℤ → List ℕ
level_section html first years width list =
    section_head html (ascii "Levels through the history") ++ (only html level_paragraph ++ (level_tables html first years width list ++ section_end html))

-- the page
unfoldable pub history_page : Bool → List ℕ → ℕ → ℕ → ℕ → List ℤ → List ℕ
history_page html title first years width list =
    history_page_start html title first
    ++ (history_opening html first years width
    ++ (share_section html first years width list
    ++ (level_section html first years width list ++ (refusal_section html list width (position_count years width) ++ page_end html))))
