-- How long the start of the page and its end are at most. Assumes nothing.
use mathlib.Core.Bool.{Bool, true, false}
use mathlib.Core.List.{List}
use Prim.Native.Nat.{ℕ, ◌+◌, ◌*◌, ◌≤◌}
use native.Mathlib.Omega.{arith}
use lib.ListN.{length, length-append}
use Rattle.composing.specs.Text.{ascii}
use Rattle.composing.proofs.Decimals.{length_most}
use Rattle.parts.proofs.Lengths.{only_most}
use Rattle.titles.proofs.Titles.{title_most}
use Rattle.page_frame.specs.Frame.{page_style, table_style, shade_style, plot_style, paper_style, style, head_start, web_start, text_start, start_with, page_start, page_end}

style_most : length style ≤ 5000
unfolding style page_style table_style shade_style plot_style paper_style
style_most = omega arith

head_most_lem : (title words : List ℕ) (year : ℕ) → length (head_start title words year) ≤ 285 + length words + 5 * length title
unfolding head_start
head_most_lem title words year = simp length-append (omega (arith, title_most true title, length_most year))

pub with_most : (html : Bool) (title words : List ℕ) (year : ℕ) → length (start_with html title words year) ≤ 5385 + length words + 10 * length title
unfolding start_with web_start text_start
with_most true title words year = simp length-append (omega (arith, head_most_lem title words year, style_most, title_most true title))
with_most false title words year = simp length-append (omega (arith, title_most false title))

pub start_most : (html : Bool) (title : List ℕ) (year : ℕ) → length (page_start html title year) ≤ 5400 + 10 * length title
unfolding page_start
start_most html title year = with_most html title (ascii "valuation year ") year

pub end_most : (html : Bool) → length (page_end html) ≤ 16
unfolding page_end
end_most html = only_most html (ascii "</body>\n</html>\n")
