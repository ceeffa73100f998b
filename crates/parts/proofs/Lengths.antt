-- How long the parts are at most, on either page. Assumes nothing.
use mathlib.Core.Bool.{Bool, true, false}
use mathlib.Core.List.{List, [], ◌∷◌, ◌++◌}
use Prim.Native.Nat.{ℕ, ◌+◌, ◌≤◌}
use native.Mathlib.Omega.{arith}
use lib.ListN.{length, length-append}
use Rattle.composing.specs.Text.{ascii}
use Rattle.parts.specs.Parts.{either, only, heading, section_head, section_end, beside_start, beside_end}

-- what bounds the text of each page bounds the one that is put
pub either_most : (html : Bool) (x y : List ℕ) (n : ℕ) → length x ≤ n → length y ≤ n → length (either html x y) ≤ n
unfolding either
either_most true x y n h k = h
either_most false x y n h k = k

pub only_most : (html : Bool) (x : List ℕ) → length (only html x) ≤ length x
unfolding only
only_most html x = either_most html x [] (length x) (omega arith) (omega arith)

pub heading_most : (html : Bool) (text : List ℕ) → length (heading html text) ≤ length text + 10
unfolding heading either
heading_most true text = omega (arith, length-append text (ascii "</h2>\n"))
heading_most false text = omega (arith, length-append text (ascii "\n"))

pub section_start_most : (html : Bool) (title : List ℕ) → length (section_head html title) ≤ length title + 20
unfolding section_head
section_start_most html title =
    omega
    (arith, heading_most html title, only_most html (ascii "<section>\n"), length-append (only html (ascii "<section>\n")) (heading html title))

pub section_end_most : (html : Bool) → length (section_end html) ≤ 11
unfolding section_end
section_end_most html = only_most html (ascii "</section>\n")

pub beside_start_most : (html : Bool) → length (beside_start html) ≤ 16
unfolding beside_start
beside_start_most html = only_most html (ascii "<div class=\"p\">\n")

pub beside_end_most : (html : Bool) → length (beside_end html) ≤ 7
unfolding beside_end
beside_end_most html = only_most html (ascii "</div>\n")
