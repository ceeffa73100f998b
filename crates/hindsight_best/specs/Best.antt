-- The sentence that names the best setting of a hindsight run. Assumes nothing.
use Rattle.std.specs.Prelude.{ℕ, ◌+◌, Bool, cond, List, ◌++◌, ℤ, pos, get_or}
use Rattle.composing.specs.Text.{ascii, decimal, fixed}
use Rattle.numerals.specs.Numerals.{number}
use Rattle.parts.specs.Parts.{either}
use Rattle.hindsight_places.specs.Places.{sum_at}
use Rattle.hindsight_marks.specs.Marks.{some_fitted}

-- a number with d decimals
unfoldable pub shown_number : Bool → ℕ → ℕ → List ℕ
shown_number html d x = either html (number d (pos x)) (fixed d (pos x))

-- setting a, counted from 1 on the page, and its index
unfoldable pub best_name : Bool → List ℕ → ℕ → List ℕ
best_name html settings a =
    either html (ascii "<p>Best setting: <b>") (ascii "Best setting: ")
    ++ (decimal (a + 1) ++ (either html (ascii "</b>, index <b>") (ascii ", index ") ++ shown_number html 6 (get_or settings a 0)))

-- and its sum
unfoldable pub best_sum : Bool → List ℤ → ℕ → ℕ → List ℕ
best_sum html list k a =
    either html (ascii "</b>, with the smallest sum of absolute gaps, ") (ascii ", with the smallest sum of absolute gaps, ")
    ++ (shown_number html 0 (sum_at list k a) ++ either html (ascii ".</p>\n") (ascii ".\n"))

unfoldable pub best_text : Bool → List ℤ → List ℕ → ℕ → ℕ → List ℕ
best_text html list settings k a = best_name html settings a ++ best_sum html list k a

-- where every step is marked
unfoldable pub none_text : Bool → List ℕ
none_text html =
    either html (ascii "<p>No step could be fitted, so that no setting is better than another.</p>\n")
    (ascii "No step could be fitted, so that no setting is better than another.\n")

unfoldable pub best_sentence : Bool → List ℤ → List ℕ → ℕ → ℕ → List ℕ
best_sentence html list settings k a = cond (some_fitted list k) (best_text html list settings k a) (none_text html)
