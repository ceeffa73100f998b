-- The words of the table of steps of a hindsight run, lines of one text: the caption, the head over the payment years, a head for each setting, and that of the marks.
-- Assumes nothing.
use Rattle.std.specs.Prelude.{ℕ, ◌+◌, List, ◌++◌}
use Rattle.rules.specs.Lists.{up_to, joined}
use Rattle.composing.specs.Text.{ascii, decimal}

-- more than they are long
abbrev pub most_heads : ℕ
most_heads = 512

-- the head of setting a, counted from 1 on the page
unfoldable pub setting_head : ℕ → List ℕ
setting_head a = ascii "setting " ++ (decimal (a + 1) ++ ascii "\n")

unfoldable pub steps_words : ℕ → List ℕ
steps_words n =
    ascii "Sums of absolute gaps by forecast payment year and setting\npayment year\n" ++ (joined (up_to setting_head n) ++ ascii "marked by question\n")
