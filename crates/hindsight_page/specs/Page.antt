-- The page of a hindsight run: the settings that are tried and the best of them, with a plot of their sums in HTML, the sums of the steps, the gaps of the best setting,
-- and what the numbers of marked steps mean. Assumes nothing.
use Rattle.std.specs.Prelude.{ℕ, ◌+◌, ◌≤◌, ◌<◌, Bool, cond, List, [], ◌++◌, eqb, ℤ, length}
use Rattle.composing.specs.Text.{ascii, decimal}
use Rattle.parts.specs.Parts.{either, only, section_head, section_end, beside_start, beside_end}
use Rattle.page_frame.specs.Frame.{start_with, page_end}
use Rattle.hindsight_places.specs.Places.{Tried, best_at, GapsSmall, SettingsSmall}
use Rattle.hindsight_tables.specs.Tables.{settings_rows, steps_rows, gaps_rows}
use Rattle.hindsight_plot.specs.Sums.{sums_plot}
use Rattle.hindsight_marks.specs.Marks.{some_fitted, mark_section}
use Rattle.hindsight_best.specs.Best.{best_sentence}

-- what is asked of a run and of its report: indices that are not above their range, the best setting among those tried, and small entries
pub record Reported (first k n : ℕ) (settings : List ℕ) (list : List ℤ) : Type 0 where
  pub tried : Tried k n first
  pub indices : SettingsSmall settings n
  pub best_inside : best_at list k n < n
  pub small : GapsSmall list

-- the start, with a title of its own where none is given; a sheet's foot has the first origin year
unfoldable pub hindsight_start : Bool → List ℕ → ℕ → List ℕ
hindsight_start html title first =
    start_with html (cond (eqb (length title) 0) (ascii "Hindsight run") title) (ascii "hindsight run of the origin years from ") first

-- the origin years, and how many settings are tried
unfoldable pub hindsight_years : Bool → ℕ → ℕ → List ℕ
hindsight_years html first k =
    either html (ascii "<p>Doonamurk 1.0. Hindsight run of the origin years <b>") (ascii "Doonamurk 1.0, hindsight run of the origin years ")
    ++ (decimal first ++ (ascii " to " ++ decimal (first + k)))

unfoldable pub settings_tried : Bool → ℕ → List ℕ
settings_tried html n =
    either html (ascii "</b>, settings tried: ") (ascii ", settings tried: ")
    ++ (decimal n ++ either html (ascii ". An index of 1 leaves prices as they are.</p>\n") (ascii "\n"))

unfoldable pub hindsight_opening : Bool → ℕ → ℕ → ℕ → List ℕ
hindsight_opening html first k n = hindsight_years html first k ++ settings_tried html n

-- the settings, with the best of them, a
unfoldable pub settings_paragraph : List ℕ
settings_paragraph = ascii "<p><b>Setting:</b> a one-year index that is tried on the past. The latest payment years are dropped one after another, down to a triangle of two years. Each time what is kept is fitted, and the payments of the next payment year are forecast with the index, where the fit has both the origin and the development year. <b>Gap:</b> payment minus forecast. The best setting has the smallest sum of absolute gaps, the first on a tie.</p>\n"

unfoldable pub settings_figures : Bool → ℕ → ℕ → List ℕ → List ℤ → List ℕ
settings_figures html k n settings list = beside_start html ++ (settings_rows html list settings k n ++ (sums_plot html list settings k n ++ beside_end html))

unfoldable pub settings_section : Bool → ℕ → ℕ → ℕ → List ℕ → List ℤ → List ℕ
settings_section html k n a settings list =
    section_head html (ascii "Settings")
    ++ (only html settings_paragraph ++ (best_sentence html list settings k a ++ (settings_figures html k n settings list ++ section_end html)))

-- the steps
unfoldable pub steps_paragraph : List ℕ
steps_paragraph = ascii "<p><b>Step:</b> one of these triangles and the payment year that it forecasts. A triangle that does not pass questions 7 to 10 is marked with the number of the first that says no, and is left out for all settings alike.</p>\n"

unfoldable pub steps_section : Bool → ℕ → ℕ → ℕ → List ℕ → List ℤ → List ℕ
steps_section html first k n settings list =
    section_head html (ascii "Steps") ++ (only html steps_paragraph ++ (steps_rows html first list settings k n ++ section_end html))

-- the gaps of the best setting, a, where there are any
unfoldable pub gaps_paragraph : List ℕ
gaps_paragraph = ascii "<p>Above zero more was paid than forecast, below zero less. A payment year is a diagonal; that of a marked step is blank. Nothing is forecast in the first origin year and in development year 0.</p>\n"

unfoldable pub gaps : Bool → ℕ → ℕ → ℕ → ℕ → List ℕ → List ℤ → List ℕ
gaps html first k n a settings list =
    section_head html (ascii "Gaps of the best setting")
    ++ (only html gaps_paragraph ++ (gaps_rows html first list settings k n a ++ section_end html))

unfoldable pub gaps_section : Bool → ℕ → ℕ → ℕ → ℕ → List ℕ → List ℤ → List ℕ
gaps_section html first k n a settings list = cond (some_fitted list k) (gaps html first k n a settings list) []

-- the sections of the figures, and the page
unfoldable pub figure_sections : Bool → ℕ → ℕ → ℕ → ℕ → List ℕ → List ℤ → List ℕ
figure_sections html first k n a settings list =
    settings_section html k n a settings list ++ (steps_section html first k n settings list ++ gaps_section html first k n a settings list)

unfoldable pub hindsight_page : Bool → List ℕ → ℕ → ℕ → ℕ → List ℕ → List ℤ → List ℕ
hindsight_page html title first k n settings list =
    hindsight_start html title first
    ++ (hindsight_opening html first k n ++ (figure_sections html first k n (best_at list k n) settings list ++ (mark_section html list k ++ page_end html)))
