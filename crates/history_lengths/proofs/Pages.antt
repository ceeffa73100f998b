-- No page of a history is ever cut: any is shorter than its buffer, which then has it whole. Assumes nothing.
use mathlib.Core.Path.{refl}
use mathlib.Core.Bool.{Bool, true, false, cond}
use mathlib.Core.List.{List, []}
use Prim.Native.Nat.{ℕ, ◌+◌, ◌-◌, ◌≤◌, ◌<◌}
use native.Mathlib.Omega.{arith}
use lib.Dec.{eqb}
use lib.IntN.{ℤ}
use lib.ListN.{length, length-append}
use Rattle.rules.specs.Lists.{every}
use Rattle.rules.specs.History.{position_count}
use Rattle.composing.specs.Text.{ascii}
use Rattle.composing.proofs.Decimals.{length_most}
use Rattle.parts.specs.Parts.{either}
use Rattle.parts.proofs.Lengths.{only_most, section_start_most, section_end_most}
use Rattle.wording.specs.Wording.{other_text_of, question_texts, question_text}
use Rattle.frame_lengths.proofs.Texts.{each_most}
use Rattle.frame_lengths.proofs.Frame.{with_most, end_most}
use Rattle.history_places.specs.Places.{Windowed, Small}
use Rattle.history_refusals.specs.Refusals.{some_number, number_text, number_line, refusals, refusal_section}
use Rattle.history_page.specs.Page.{history_page_start, history_years, history_width, history_opening, share_paragraph, share_section, level_paragraph, level_section, history_page}
use Rattle.history_lengths.specs.Page.{most_history_page}
use Rattle.history_lengths.proofs.Tables.{share_tables_most, level_tables_most}
use Rattle.history_lengths.proofs.Plots.{drift_most}

-- the start and the opening
given_most : (title : List ℕ) → length title ≤ 255 → length (cond (eqb (length title) 0) (ascii "Shares through a history") title) ≤ 255
given_most title short = go (eqb (length title) 0)
  where
    go : (t : Bool) → length (cond t (ascii "Shares through a history") title) ≤ 255
    go true = omega arith
    go false = short

start_most : (html : Bool) (title : List ℕ) (first : ℕ) → length title ≤ 255 → length (history_page_start html title first) ≤ 8000
unfolding history_page_start
start_most html title first short =
    omega
    (arith, with_most html (cond (eqb (length title) 0) (ascii "Shares through a history") title) (ascii "history of the origin years from ") first, given_most title short)

opening_most : (html : Bool) (first years width : ℕ) → length (history_opening html first years width) ≤ 300
unfolding history_opening history_years history_width either
opening_most true first years width = simp length-append (omega (arith, length_most first, length_most (first + (years - 1)), length_most width))
opening_most false first years width = simp length-append (omega (arith, length_most first, length_most (first + (years - 1)), length_most width))

-- the refused positions
question_most : (q : ℕ) → length (question_text q) ≤ 150
unfolding question_text question_texts every
question_most q = each_most 150 other_text_of question_texts (omega arith) refl q

text_most : (html : Bool) (q : ℕ) → length (number_text html q) ≤ 210
unfolding number_text either
text_most true q = simp length-append (omega (arith, only_most true (ascii "<p>"), length_most q, question_most q))
text_most false q = simp length-append (omega (arith, only_most false (ascii "<p>"), length_most q, question_most q))

line_most : (html : Bool) (list : List ℤ) (width n q : ℕ) → length (number_line html list width n q) ≤ 210
unfolding number_line
line_most html list width n q = go (some_number list width q q n)
  where
    go : (t : Bool) → length (cond t (number_text html q) []) ≤ 210
    go true = text_most html q
    go false = omega arith

refusals_most : (html : Bool) (list : List ℤ) (width n : ℕ) → length (refusal_section html list width n) ≤ 900
unfolding refusal_section refusals
refusals_most html list width n = go (some_number list width 7 10 n)
  where
    go : (t : Bool) → length (cond t (refusals html list width n) []) ≤ 900
    go true =
        simp length-append
        (omega
        (arith, section_start_most html (ascii "Refused positions"), line_most html list width n 7, line_most html list width n 8, line_most html list width n 9, line_most html list width n 10, section_end_most html))
    go false = omega arith

module _ (html : Bool) (first years width : ℕ) (list : List ℤ) (w : Windowed years width first) where
  shares_most : Small list → length (share_section html first years width list) ≤ 340500
  unfolding share_section share_paragraph
  shares_most small =
      simp length-append
      (omega
      (arith, section_start_most html (ascii "Shares through the history"), only_most html share_paragraph, share_tables_most html first years width list w, drift_most first years width list w small html, section_end_most html))

  levels_most : length (level_section html first years width list) ≤ 120500
  unfolding level_section level_paragraph
  levels_most =
      simp length-append
      (omega
      (arith, section_start_most html (ascii "Levels through the history"), only_most html level_paragraph, level_tables_most html first years width list w, section_end_most html))

  -- with a title of at most 255 bytes
  pub page_most : (title : List ℕ) → length title ≤ 255 → Small list → length (history_page html title first years width list) < most_history_page
  unfolding history_page
  page_most title short small =
      simp length-append
      (omega
      (arith, start_most html title first short, opening_most html first years width, shares_most small, levels_most, refusals_most html list width (position_count years width), end_most html))
