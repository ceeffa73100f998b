-- No page of a hindsight run is ever cut: any is shorter than its buffer, which then has it whole. Assumes nothing.
use mathlib.Core.Path.{refl}
use mathlib.Core.Bool.{Bool, true, false, cond}
use mathlib.Core.List.{List, []}
use Prim.Native.Nat.{ℕ, ◌+◌, ◌-◌, ◌≤◌, ◌<◌}
use native.Mathlib.Omega.{arith}
use lib.Dec.{eqb}
use lib.IntN.{ℤ, pos}
use lib.ListN.{length, get_or, length-append}
use Rattle.rules.specs.Lists.{every}
use Rattle.composing.specs.Text.{ascii, fixed}
use Rattle.composing.proofs.Decimals.{length_most}
use Rattle.numerals.specs.Numerals.{number}
use Rattle.numerals.proofs.Lengths.{fixed_most, number_most}
use Rattle.parts.specs.Parts.{either}
use Rattle.parts.proofs.Lengths.{either_most, only_most, section_start_most, section_end_most, beside_start_most, beside_end_most}
use Rattle.wording.specs.Wording.{other_text_of, question_texts, question_text}
use Rattle.frame_lengths.proofs.Texts.{each_most}
use Rattle.frame_lengths.proofs.Frame.{with_most, end_most}
use Rattle.history_refusals.specs.Refusals.{number_text}
use Rattle.hindsight_places.specs.Places.{sum_at, best_at}
use Rattle.hindsight_cells.specs.Cells.{Shown}
use Rattle.hindsight_marks.specs.Marks.{some_mark, some_fitted, mark_line, marks, mark_section}
use Rattle.hindsight_best.specs.Best.{shown_number, best_name, best_sum, best_text, none_text, best_sentence}
use Rattle.hindsight_page.specs.Page.{Reported, hindsight_start, hindsight_years, settings_tried, hindsight_opening, settings_paragraph, settings_figures, settings_section, steps_paragraph, steps_section, gaps_paragraph, gaps, gaps_section, figure_sections, hindsight_page}
use Rattle.hindsight_page.proofs.Shown.{shown_at}
use Rattle.hindsight_lengths.specs.Page.{most_hindsight_page}
use Rattle.hindsight_lengths.proofs.Tables.{settings_rows_most, steps_rows_most, gaps_rows_most, sums_plot_most}

-- the start and the opening
given_most : (title : List ℕ) → length title ≤ 255 → length (cond (eqb (length title) 0) (ascii "Hindsight run") title) ≤ 255
given_most title short = go (eqb (length title) 0)
  where
    go : (t : Bool) → length (cond t (ascii "Hindsight run") title) ≤ 255
    go true = omega arith
    go false = short

start_most : (html : Bool) (title : List ℕ) (first : ℕ) → length title ≤ 255 → length (hindsight_start html title first) ≤ 8000
unfolding hindsight_start
start_most html title first short =
    omega
    (arith, with_most html (cond (eqb (length title) 0) (ascii "Hindsight run") title) (ascii "hindsight run of the origin years from ") first, given_most title short)

opening_most : (html : Bool) (first k n : ℕ) → length (hindsight_opening html first k n) ≤ 300
unfolding hindsight_opening hindsight_years settings_tried either
opening_most true first k n = simp length-append (omega (arith, length_most first, length_most (first + k), length_most n))
opening_most false first k n = simp length-append (omega (arith, length_most first, length_most (first + k), length_most n))

-- the marked steps
question_most : (q : ℕ) → length (question_text q) ≤ 150
unfolding question_text question_texts every
question_most q = each_most 150 other_text_of question_texts (omega arith) refl q

text_most : (html : Bool) (q : ℕ) → length (number_text html q) ≤ 210
unfolding number_text either
text_most true q = simp length-append (omega (arith, only_most true (ascii "<p>"), length_most q, question_most q))
text_most false q = simp length-append (omega (arith, only_most false (ascii "<p>"), length_most q, question_most q))

line_most : (html : Bool) (list : List ℤ) (k q : ℕ) → length (mark_line html list k q) ≤ 210
unfolding mark_line
line_most html list k q = go (some_mark list k q q (k - 1))
  where
    go : (t : Bool) → length (cond t (number_text html q) []) ≤ 210
    go true = text_most html q
    go false = omega arith

marks_most : (html : Bool) (list : List ℤ) (k : ℕ) → length (mark_section html list k) ≤ 900
unfolding mark_section marks
marks_most html list k = go (some_mark list k 7 10 (k - 1))
  where
    go : (t : Bool) → length (cond t (marks html list k) []) ≤ 900
    go true =
        simp length-append
        (omega
        (arith, section_start_most html (ascii "Marked steps"), line_most html list k 7, line_most html list k 8, line_most html list k 9, line_most html list k 10, section_end_most html))
    go false = omega arith

-- the sentence
number_shown_most : (html : Bool) (d x : ℕ) → length (shown_number html d x) ≤ 65 + d
unfolding shown_number
number_shown_most html d x = either_most html (number d (pos x)) (fixed d (pos x)) (65 + d) (number_most d (pos x)) (omega (arith, fixed_most d (pos x)))

best_most : (html : Bool) (list : List ℤ) (settings : List ℕ) (k a : ℕ) → length (best_text html list settings k a) ≤ 300
unfolding best_text best_name best_sum either
best_most true list settings k a =
    simp length-append (omega (arith, length_most (a + 1), number_shown_most true 6 (get_or settings a 0), number_shown_most true 0 (sum_at list k a)))
best_most false list settings k a =
    simp length-append (omega (arith, length_most (a + 1), number_shown_most false 6 (get_or settings a 0), number_shown_most false 0 (sum_at list k a)))

none_most : (html : Bool) → length (none_text html) ≤ 300
unfolding none_text either
none_most true = omega arith
none_most false = omega arith

sentence_most : (html : Bool) (list : List ℤ) (settings : List ℕ) (k a : ℕ) → length (best_sentence html list settings k a) ≤ 300
unfolding best_sentence
sentence_most html list settings k a = go (some_fitted list k)
  where
    go : (t : Bool) → length (cond t (best_text html list settings k a) (none_text html)) ≤ 300
    go true = best_most html list settings k a
    go false = none_most html

-- the sections
module _ (html : Bool) (first k n a : ℕ) (settings : List ℕ) (list : List ℤ) (shown : Shown list settings k n a) where
  settings_most : Shown list settings k n 0 → length (settings_section html k n a settings list) ≤ 9000
  unfolding settings_section settings_paragraph settings_figures
  settings_most zeroth =
      simp length-append
      (omega
      (arith, section_start_most html (ascii "Settings"), only_most html settings_paragraph, sentence_most html list settings k a, beside_start_most html, settings_rows_most html first k n a settings list shown, sums_plot_most html first k n a settings list shown zeroth, beside_end_most html, section_end_most html))

  steps_most : length (steps_section html first k n settings list) ≤ 15500
  unfolding steps_section steps_paragraph
  steps_most =
      simp length-append
      (omega
      (arith, section_start_most html (ascii "Steps"), only_most html steps_paragraph, steps_rows_most html first k n a settings list shown, section_end_most html))

  all_gaps_most : length (gaps html first k n a settings list) ≤ 25500
  unfolding gaps gaps_paragraph
  all_gaps_most =
      simp length-append
      (omega
      (arith, section_start_most html (ascii "Gaps of the best setting"), only_most html gaps_paragraph, gaps_rows_most html first k n a settings list shown, section_end_most html))

  gaps_most : length (gaps_section html first k n a settings list) ≤ 25500
  unfolding gaps_section
  gaps_most = go (some_fitted list k)
    where
      go : (t : Bool) → length (cond t (gaps html first k n a settings list) []) ≤ 25500
      go true = all_gaps_most
      go false = omega arith

  figures_most : Shown list settings k n 0 → length (figure_sections html first k n a settings list) ≤ 50000
  unfolding figure_sections
  figures_most zeroth = simp length-append (omega (arith, settings_most zeroth, steps_most, gaps_most))

-- the page, with a title of at most 255 bytes
pub page_most : (html : Bool) (title : List ℕ) (first k n : ℕ) (settings : List ℕ) (list : List ℤ) → length title ≤ 255 → Reported first k n settings list
    → length (hindsight_page html title first k n settings list) < most_hindsight_page
unfolding hindsight_page
page_most html title first k n settings list short r =
    let shown = shown_at first k n settings list r in
    let a = best_at list k n in
    simp length-append
    (omega
    (arith, start_most html title first short, opening_most html first k n, figures_most html first k n a settings list (shown a r.best_inside) (shown 0 (omega (arith, r.tried.settings_least))), marks_most html list k, end_most html))
