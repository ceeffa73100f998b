-- Plots worked out by hand: two bars a slot on both sides of zero, and one bar, dark and then light. Assumes nothing.
use mathlib.Core.Path.{◌≡◌, refl}
use mathlib.Core.List.{[], ◌∷◌}
use lib.IntN.{pos, negsuc}
use Rattle.rules.specs.Lists.{up_to, joined}
use Rattle.entries.specs.Leading.{passing}
use Rattle.composing.specs.Text.{ascii, last_digits_of, decimal_in, decimal, sign, without}
use Rattle.numerals.specs.Numerals.{grouped_in, grouped, numeral, spaced}
use Rattle.lines.specs.Lines.{first_line, from_line, line_of}
use Rattle.axis.specs.Axis.{side_of, in_decade, step_in, step_for, scale_with, scale_of, zero_line, foot_line, height_of, unit_of, shown_step}
use Rattle.shapes.specs.Shapes.{numbered, tick_line, shape, told, slot_label}
use Rattle.drawing.specs.Drawing.{tick_number, tick_at, ticks, bar}
use Rattle.figure_caption.specs.Caption.{wide_of, least_of, legend, caption}
use Rattle.figure.specs.Figure.{canvas, description, axis_text, axis_label, figure_start, figure_end}
use Rattle.axis_words.specs.AxisWords.{unit_word, word_gap}
use Rattle.plot.specs.Plot.{slot_largest, largest_in, scale_for, slot_bars, slot, plot_by, plot}

pub worked_two : plot (ascii "Provision by origin year\nBars.\n\nseparation\nchain ladder\n") 1 0 2012 (pos 0 ∷ pos 0 ∷ pos 52 ∷ negsuc 52 ∷ pos 166 ∷ pos 160 ∷ []) (record { start = 0; stride = 2; bars = 2; split = 0; slots = 3 })
    ≡ ascii "<figure style=\"flex-basis:200px\"><figcaption>Provision by origin year <b class=\"a\"></b> separation <b class=\"b\"></b> chain ladder</figcaption>\n<svg role=\"img\" viewBox=\"0 0 300 228\" style=\"min-width:200px;max-width:300px\">\n<title>Provision by origin year</title>\n<desc>Bars.</desc>\n<text class=\"l\" x=\"0\" y=\"12\"></text>\n<path d=\"M50 204H300\"/><text x=\"46\" y=\"208\">-100</text>\n<path d=\"M50 174H300\"/><text x=\"46\" y=\"178\">-50</text>\n<path d=\"M50 144H300\"/><text x=\"46\" y=\"148\">0</text>\n<path d=\"M50 114H300\"/><text x=\"46\" y=\"118\">50</text>\n<path d=\"M50 84H300\"/><text x=\"46\" y=\"88\">100</text>\n<path d=\"M50 54H300\"/><text x=\"46\" y=\"58\">150</text>\n<path d=\"M50 24H300\"/><text x=\"46\" y=\"28\">200</text>\n<rect class=\"a\" x=\"58\" y=\"144\" width=\"13\" height=\"0\"><title>2012: 0</title></rect>\n<rect class=\"b\" x=\"71\" y=\"144\" width=\"13\" height=\"0\"><title>2012: 0</title></rect>\n<text class=\"m\" x=\"71\" y=\"220\">2012</text>\n<rect class=\"a\" x=\"88\" y=\"113\" width=\"13\" height=\"31\"><title>2013: 52</title></rect>\n<rect class=\"b\" x=\"101\" y=\"144\" width=\"13\" height=\"31\"><title>2013: -53</title></rect>\n<text class=\"m\" x=\"101\" y=\"220\">2013</text>\n<rect class=\"a\" x=\"118\" y=\"45\" width=\"13\" height=\"99\"><title>2014: 166</title></rect>\n<rect class=\"b\" x=\"131\" y=\"48\" width=\"13\" height=\"96\"><title>2014: 160</title></rect>\n<text class=\"m\" x=\"131\" y=\"220\">2014</text>\n<path class=\"z\" d=\"M50 144H300\"/>\n</svg></figure>\n"
unfolding passing up_to joined last_digits_of decimal_in decimal sign without grouped_in grouped numeral spaced first_line from_line line_of side_of in_decade step_in step_for scale_with scale_of zero_line foot_line height_of unit_of shown_step numbered tick_number tick_line tick_at ticks shape told bar slot_label wide_of least_of legend caption canvas description unit_word word_gap axis_text axis_label figure_start figure_end slot_largest largest_in scale_for slot_bars slot plot_by plot
worked_two = refl

pub worked_levels : plot (ascii "Levels\nBars.\na claim\nfound\n\n") 100 2 0 (pos 86378 ∷ pos 1 ∷ pos 98939 ∷ pos 1 ∷ pos 101998 ∷ []) (record { start = 0; stride = 2; bars = 1; split = 2; slots = 3 })
    ≡ ascii "<figure style=\"flex-basis:200px\"><figcaption>Levels <b class=\"a\"></b> found</figcaption>\n<svg role=\"img\" viewBox=\"0 0 300 228\" style=\"min-width:200px;max-width:300px\">\n<title>Levels</title>\n<desc>Bars.</desc>\n<text class=\"l\" x=\"0\" y=\"12\">a claim</text>\n<path d=\"M50 204H300\"/><text x=\"46\" y=\"208\">0</text>\n<path d=\"M50 144H300\"/><text x=\"46\" y=\"148\">500</text>\n<path d=\"M50 84H300\"/><text x=\"46\" y=\"88\">1 000</text>\n<path d=\"M50 24H300\"/><text x=\"46\" y=\"28\">1 500</text>\n<rect class=\"a\" x=\"60\" y=\"101\" width=\"22\" height=\"103\"><title>0: 863.78</title></rect>\n<text class=\"m\" x=\"71\" y=\"220\">0</text>\n<rect class=\"a\" x=\"90\" y=\"86\" width=\"22\" height=\"118\"><title>1: 989.39</title></rect>\n<text class=\"m\" x=\"101\" y=\"220\">1</text>\n<rect class=\"b\" x=\"120\" y=\"82\" width=\"22\" height=\"122\"><title>2: 1 019.98</title></rect>\n<text class=\"m\" x=\"131\" y=\"220\">2</text>\n<path class=\"z\" d=\"M50 204H300\"/>\n</svg></figure>\n"
unfolding passing up_to joined last_digits_of decimal_in decimal sign without grouped_in grouped numeral spaced first_line from_line line_of side_of in_decade step_in step_for scale_with scale_of zero_line foot_line height_of unit_of shown_step numbered tick_number tick_line tick_at ticks shape told bar slot_label wide_of least_of legend caption canvas description unit_word word_gap axis_text axis_label figure_start figure_end slot_largest largest_in scale_for slot_bars slot plot_by plot
worked_levels = refl
