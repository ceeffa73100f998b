-- How long a plot's figure is at most, by its words. Assumes nothing.
use mathlib.Core.Bool.{Bool, true, false, cond}
use mathlib.Core.List.{List, [], ◌∷◌, ◌++◌}
use Prim.Native.Nat.{ℕ, zero, suc, ◌+◌, ◌*◌, ◌/◌, ◌≤◌, ◌<◌}
use native.Mathlib.Omega.{arith}
use lib.Dec.{eqb}
use lib.ListN.{length, length-append}
use Rattle.entries.specs.Leading.{passing}
use Rattle.composing.specs.Text.{ascii}
use Rattle.lines.specs.Lines.{in_line, first_line, from_line, line_of}
use Rattle.shapes.specs.Shapes.{numbered}
use Rattle.plot_lengths.proofs.Drawn.{numbered_most, three, four}
use Rattle.figure_caption.specs.Caption.{wide_of, least_of, dark, light, legend, caption}
use Rattle.figure.specs.Figure.{canvas, description, axis_text, axis_label, figure_start, figure_end}
use Rattle.axis_words.specs.AxisWords.{unit_word, word_gap}

-- a line is no longer than the text
passing_most : (p : ℕ → Bool) (xs : List ℕ) → length (passing p xs) ≤ length xs
unfolding passing
passing_most p [] = omega arith
passing_most p (x ∷ xs) = go (p x) (passing_most p xs)
  where
    go : (t : Bool) → length (passing p xs) ≤ length xs → length (cond t (x ∷ passing p xs) []) ≤ suc (length xs)
    go true h = omega arith
    go false h = omega arith

from_most : (n : ℕ) (other text : List ℕ) → length text ≤ length other → length (from_line n other text) ≤ length other
unfolding from_line
from_most n other [] h = omega arith
from_most zero other (b ∷ text) h = h
from_most (suc n) other (b ∷ text) h = from_most (cond (eqb b 10) n (suc n)) other text (omega arith)

pub line_most : (n : ℕ) (text : List ℕ) → length (line_of n text) ≤ length text
unfolding line_of first_line
line_most n text = omega (arith, passing_most in_line (from_line n text text), from_most n text text (omega arith))

-- a width has four digits at most
pub wide_most : (n : ℕ) → n ≤ 32 → wide_of n < 10000
unfolding wide_of
wide_most n h = omega arith

least_most : (n : ℕ) → n ≤ 32 → least_of n < 1000
unfolding least_of wide_of
least_most n h = omega arith

-- the parts
legend_most : (mark : ℕ) (word : List ℕ) → length (legend mark word) ≤ 19 + length word
unfolding legend
legend_most mark word = go (eqb (length word) 0)
  where
    go : (t : Bool) → length (cond t [] (ascii " <b class=\"" ++ ((mark ∷ []) ++ (ascii "\"></b> " ++ word)))) ≤ 19 + length word
    go true = omega arith
    go false = omega arith

caption_most : (words : List ℕ) (n : ℕ) → n ≤ 32 → length (caption words n) ≤ 98 + 3 * length words
unfolding caption
caption_most words n h =
    let a = numbered (ascii "<figure style=\"flex-basis:") (least_of n) in
    let t = line_of 0 words in
    let d = legend dark (line_of 3 words) in
    let l = legend light (line_of 4 words) in
    let e = ascii "</figcaption>\n" in
    omega
    (arith, length-append a (ascii "px\"><figcaption>" ++ (t ++ (d ++ (l ++ e)))), length-append t (d ++ (l ++ e)), length-append d (l ++ e), length-append l e, numbered_most (ascii "<figure style=\"flex-basis:") (least_of n) 3 (three (least_of n) (least_most n h)), line_most 0 words, line_most 3 words, line_most 4 words, legend_most dark (line_of 3 words), legend_most light (line_of 4 words))

canvas_most : (n foot : ℕ) → n ≤ 32 → foot ≤ 204 → length (canvas n foot) ≤ 81
unfolding canvas
canvas_most n foot h l =
    let a = numbered (ascii "<svg role=\"img\" viewBox=\"0 0 ") (wide_of n) in
    let b = numbered (ascii " ") (foot + 24) in
    let c = numbered (ascii "\" style=\"min-width:") (least_of n) in
    let d = numbered (ascii "px;max-width:") (wide_of n) in
    let e = ascii "px\">\n" in
    let wide = four (wide_of n) (wide_most n h) in
    omega
    (arith, length-append a (b ++ (c ++ (d ++ e))), length-append b (c ++ (d ++ e)), length-append c (d ++ e), length-append d e, numbered_most (ascii "<svg role=\"img\" viewBox=\"0 0 ") (wide_of n) 4 wide, numbered_most (ascii " ") (foot + 24) 3 (three (foot + 24) (omega arith)), numbered_most (ascii "\" style=\"min-width:") (least_of n) 3 (three (least_of n) (least_most n h)), numbered_most (ascii "px;max-width:") (wide_of n) 4 wide)

description_most : (words : List ℕ) → length (description words) ≤ 30 + 2 * length words
unfolding description
description_most words =
    let t = line_of 0 words in
    let d = line_of 1 words in
    omega
    (arith, length-append t (ascii "</title>\n<desc>" ++ (d ++ ascii "</desc>\n")), length-append d (ascii "</desc>\n"), line_most 0 words, line_most 1 words)

unit_word_most : (unit : ℕ) → length (unit_word unit) ≤ 17
unfolding unit_word
unit_word_most unit = go (eqb unit 1) (eqb unit 1000) (eqb unit 1000000)
  where
    go : (a b c : Bool) → length (cond a [] (cond b (ascii "thousands") (cond c (ascii "millions") (ascii "thousand millions")))) ≤ 17
    go true b c = omega arith
    go false true c = omega arith
    go false false true = omega arith
    go false false false = omega arith

gap_most : (unit size : ℕ) → length (word_gap unit size) ≤ 1
unfolding word_gap
gap_most unit size = go (eqb unit 1) (eqb size 0)
  where
    go : (a b : Bool) → length (cond a [] (cond b [] (ascii " "))) ≤ 1
    go true b = omega arith
    go false true = omega arith
    go false false = omega arith

axis_most : (words : List ℕ) (unit : ℕ) → length (axis_label words unit) ≤ 55 + length words
unfolding axis_label axis_text
axis_most words unit =
    let w = unit_word unit in
    let l = line_of 2 words in
    let g = word_gap unit (length l) in
    let e = ascii "</text>\n" in
    omega
    (arith, length-append (w ++ (g ++ l)) e, length-append w (g ++ l), length-append g l, unit_word_most unit, gap_most unit (length l), line_most 2 words)

-- all before the ticks, and all after the slots
pub start_most : (words : List ℕ) (n foot unit : ℕ) → n ≤ 32 → foot ≤ 204 → length (figure_start words n foot unit) ≤ 264 + 6 * length words
unfolding figure_start
start_most words n foot unit h l =
    let b = canvas n foot in
    let c = description words in
    let d = axis_label words unit in
    omega
    (arith, length-append (caption words n) (b ++ (c ++ d)), length-append b (c ++ d), length-append c d, caption_most words n h, canvas_most n foot h l, description_most words, axis_most words unit)

pub end_most : (n line : ℕ) → n ≤ 32 → line ≤ 204 → length (figure_end n line) ≤ 53
unfolding figure_end
end_most n line h l =
    let a = numbered (ascii "<path class=\"z\" d=\"M50 ") line in
    let b = numbered (ascii "H") (wide_of n) in
    let e = ascii "\"/>\n</svg></figure>\n" in
    omega
    (arith, length-append a (b ++ e), length-append b e, numbered_most (ascii "<path class=\"z\" d=\"M50 ") line 3 (three line (omega arith)), numbered_most (ascii "H") (wide_of n) 4 (four (wide_of n) (wide_most n h)))
