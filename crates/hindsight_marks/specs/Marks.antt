-- The marked steps of a hindsight run: whether a step is fitted, and what each number means that occurs among the marks. Assumes nothing.
use Rattle.std.specs.Prelude.{ℕ, zero, suc, ◌-◌, Bool, false, cond, ◌||◌, List, [], ◌++◌, ℤ}
use Rattle.rules.specs.Lists.{between}
use Rattle.composing.specs.Text.{ascii}
use Rattle.parts.specs.Parts.{section_head, section_end}
use Rattle.history_refusals.specs.Refusals.{number_text}
use Rattle.hindsight_places.specs.Places.{mark_at}

-- whether one of steps 1 to m has a mark from least to most
unfoldable pub some_mark : List ℤ → ℕ → ℕ → ℕ → ℕ → Bool
some_mark list k least most zero = false
some_mark list k least most (suc m) = some_mark list k least most m || between least most (mark_at list k (suc m))

-- whether a step is fitted at all
unfoldable pub some_fitted : List ℤ → ℕ → Bool
some_fitted list k = some_mark list k 0 0 (k - 1)

-- what number q means, where it occurs
unfoldable pub mark_line : Bool → List ℤ → ℕ → ℕ → List ℕ
mark_line html list k q = cond (some_mark list k q q (k - 1)) (number_text html q) []

-- the section, where a step is marked at all: by questions 7 to 10
unfoldable pub marks : Bool → List ℤ → ℕ → List ℕ
marks html list k =
    section_head html (ascii "Marked steps")
    ++ ((mark_line html list k 7 ++ (mark_line html list k 8 ++ (mark_line html list k 9 ++ mark_line html list k 10))) ++ section_end html)

unfoldable pub mark_section : Bool → List ℤ → ℕ → List ℕ
mark_section html list k = cond (some_mark list k 7 10 (k - 1)) (marks html list k) []
