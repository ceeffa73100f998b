-- The words of a fault by what it is about. Assumes nothing.
use mathlib.Core.Path.{◌≡◌, refl, sym, ap, ◌∙◌}
use mathlib.Core.Bool.{Bool, true, false, cond}
use mathlib.Core.List.{List, [], ◌++◌}
use Prim.Native.Nat.{ℕ, ◌+◌, ◌≤◌, ◌<◌}
use native.Mathlib.Numerals.{add-one}
use borrow.Author.Tests.{eq-eqb, ne_eqb, lt-ltb, le-ltb}
use lib.Dec.{eqb}
use lib.ListN.{length, take}
use lib.Seq.{take_all}
use Rattle.rules.specs.Lists.{every}
use Rattle.composing.specs.Text.{ascii, decimal}
use Rattle.scanning.specs.Parts.{among, before, until, from, past, onto, pieces}
use Rattle.separating.specs.Separators.{separators}
use Rattle.cells.specs.Cells.{from_label, after_label, unspaced, trimmed, unquoted, cell_from, filled, used, cells_by, decider, cells_text, cells_of}
use Rattle.inflation_line.specs.declared.Fault.{Fault}
use Rattle.inflation_line.specs.InflationLine.{shape_names, shape_at, number_at}
use Rattle.sheet.specs.Sheet.{lines_before, year_asked, inflation_line}
use Rattle.sheet_wording.specs.Problem.{named, cell_text}
use Rattle.inflation_wording.specs.FaultWords.{shape_name, shown_cell, number_due, number_words, count_words, fault_words, fault_front, fault_line}

-- the words of the code's text are the names: by computing
pub shapes_are : cells_of (ascii "shapes flat fading shock") ≡ shape_names
unfolding shape_names cells_of decider cells_text cells_by used filled cell_from unquoted trimmed unspaced separators after_label from_label pieces onto past from until before among every
shapes_are = refl

-- a cell, cut and whole
pub shown_cut : (line : List ℕ) (n : ℕ) (w : List ℕ) → w ≡ number_at line n → cell_text (take 20 w) ≡ shown_cell line n
unfolding shown_cell
shown_cut line n w e = rw e

pub shown_whole : (line : List ℕ) (n : ℕ) (w : List ℕ) → w ≡ number_at line n → length w ≤ 20 → cell_text w ≡ shown_cell line n
unfolding shown_cell
shown_whole line n w e h = ap cell_text (sym (take_all 20 w h)) ∙ rw e

-- a year, and a rate by its limits or by its form
pub due_year : (asked : Bool) (years n : ℕ) → n ≡ 3 → ascii "a year from 1 to " ++ decimal years ≡ number_due asked years n
unfolding number_due
due_year asked years n e = rw (eq-eqb n 3 e)

pub due_limits : (asked : Bool) (years n : ℕ) → (n ≡ 3 → ⊥) → asked ≡ true → ascii "a rate from -0.5 to 1.0" ≡ number_due asked years n
unfolding number_due
due_limits asked years n e a = rw (ne_eqb n 3 e, a)

pub due_form : (asked : Bool) (years n : ℕ) → (n ≡ 3 → ⊥) → asked ≡ false → ascii "a decimal of at most 15 digits or 16 hex digits" ≡ number_due asked years n
unfolding number_due
due_form asked years n e a = rw (ne_eqb n 3 e, a)

-- a refusal in front, and none
pub front_none : (kind : ℕ) → kind < 20 → fault_front kind ≡ []
unfolding fault_front
front_none kind h = rw (lt-ltb kind 20 h)

pub front_some : (kind : ℕ) → 20 ≤ kind → fault_front kind ≡ ascii "refused " ++ (decimal kind ++ ascii ": ")
unfolding fault_front
front_some kind h = rw (le-ltb kind 20 h)

-- the counts
pub counts_are : (s n : ℕ)
    → named (shape_name s) ++ (ascii " takes " ++ ((decimal (s + 1) ++ cond (eqb (s + 1) 1) (ascii " number, and ") (ascii " numbers, and ")) ++ (decimal n ++ cond (eqb n 1) (ascii " stands there") (ascii " stand there"))))
    ≡ count_words s n
unfolding count_words
counts_are s n = rw (add-one s)

-- the words by what is wrong
module _ (years : ℕ) (line : List ℕ) (kind n : ℕ) where
  pub words_shape : kind ≡ 1 → fault_words years line kind n ≡ ascii "`flat`, `fading` or `shock` is due after `inflation`, not " ++ shown_cell line 0
  unfolding fault_words
  words_shape e = rw e

  pub words_count : kind ≡ 2 → (s : ℕ) → s ≡ shape_at line → fault_words years line kind n ≡ count_words s n
  unfolding fault_words
  words_count e s f = rw (e, f)

  pub words_form : kind ≡ 3 → fault_words years line kind n ≡ number_words false years line n
  unfolding fault_words
  words_form e = rw e

  pub words_asked : kind ≡ 20 → fault_words years line kind n ≡ number_words true years line n
  unfolding fault_words
  words_asked e = rw e

  pub words_index : (kind ≡ 1 → ⊥) → (kind ≡ 2 → ⊥) → (kind ≡ 3 → ⊥) → (kind ≡ 20 → ⊥)
      → fault_words years line kind n ≡ ascii "the index of year " ++ (decimal n ++ ascii " leaves 1 to 5,000,000")
  unfolding fault_words
  words_index a b c d = rw (ne_eqb kind 1 a, ne_eqb kind 2 b, ne_eqb kind 3 c, ne_eqb kind 20 d)

-- a line of words, from its number, the years and the line
pub fault_line_lem : (ls : List (List ℕ)) (f : Fault) (n : ℕ) → n ≡ lines_before true ls → (k : ℕ) → k ≡ year_asked ls → (line : List ℕ) → line ≡ inflation_line ls
    → fault_front f.kind ++ (ascii "line " ++ (decimal (n + 1) ++ (ascii ": " ++ (fault_words (k + 1) line f.kind f.about ++ ascii "\n")))) ≡ fault_line ls f
unfolding fault_line
fault_line_lem ls f n e k g line h = rw (e, g, h)
