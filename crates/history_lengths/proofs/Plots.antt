-- How long the plots of a history are at most: sixteen of sixty-three bars. Assumes nothing.
use mathlib.Core.Bool.{Bool, true, false, cond}
use mathlib.Core.List.{List, [], ◌++◌}
use Prim.Native.Nat.{ℕ, ◌+◌, ◌*◌, ◌%◌, ◌≤◌, ◌<◌}
use native.Mathlib.Omega.{arith}
use lib.Dec.{eqb}
use lib.IntN.{ℤ, nat_abs}
use lib.ListN.{length, length-append}
use Rattle.rules.specs.History.{position_count}
use Rattle.parts.specs.Parts.{beside_start, beside_end}
use Rattle.parts.proofs.Lengths.{only_most, beside_start_most, beside_end_most}
use Rattle.axis.specs.declared.Scale.{Scale}
use Rattle.axis.specs.Axis.{zero_line, foot_line, unit_of, shown_step, Sound}
use Rattle.axis.proofs.Axis.{foot_most}
use Rattle.shapes.specs.Shapes.{slot_label}
use Rattle.drawing.specs.Drawing.{ticks, bar}
use Rattle.figure_caption.specs.Caption.{wide_of, dark}
use Rattle.figure.specs.Figure.{figure_start, figure_end}
use Rattle.plot_lengths.proofs.Drawn.{joined_most, three, top_most, bar_most, label_most_lem, ticks_most}
use Rattle.plot_lengths.proofs.Framed.{wide_most, start_most, end_most}
use Rattle.history_places.specs.Places.{Windowed, Small, refused}
use Rattle.drift_words.specs.Words.{drift_words}
use Rattle.drift_words.proofs.Lengths.{words_most}
use Rattle.drift_scale.specs.Scales.{share_at, largest_share, in_percent, one_for, drift_scale}
use Rattle.drift_scale.proofs.Largest.{scale_sound, share_five}
use Rattle.drift_bars.specs.Bars.{drift_bar, drift_label, drift_slot, drift_bars}
use Rattle.drift_plot.specs.Drift.{slots_of, drift_by, drift_plot, drift_plots, drift}

module _ (scale : Scale) (k : Sound scale) (first : ℕ) (l : first ≤ 65535) (list : List ℤ) (width j : ℕ) where
  one_bar : (a : ℕ) → a < 63 → nat_abs (share_at list width j a) ≤ 5 * scale.step → length (drift_bar scale first list width j a) ≤ 126
  unfolding drift_bar
  one_bar a few five = go (refused list width a)
    where
      go : (t : Bool) → length (cond t [] (bar scale dark (58 + 15 * a) 11 (first + a) 9 (share_at list width j a))) ≤ 126
      go true = omega arith
      go false =
          omega (arith, bar_most scale dark (58 + 15 * a) 11 (first + a) 9 3 (share_at list width j a) k (three (58 + 15 * a) (omega arith)) (omega arith) (omega arith) five)

  one_label : (a : ℕ) → a < 63 → length (drift_label scale first a) ≤ 47
  unfolding drift_label
  one_label a few = go (eqb (a % 2) 0)
    where
      go : (t : Bool) → length (cond t (slot_label (63 + 15 * a) (foot_line scale + 16) (first + a)) []) ≤ 47
      go true = label_most_lem (63 + 15 * a) (foot_line scale + 16) (first + a) (omega arith) (omega (arith, foot_most scale k)) (omega arith)
      go false = omega arith

  bars_most : (n : ℕ) → n ≤ 63 → ((a : ℕ) → a < n → nat_abs (share_at list width j a) ≤ 5 * scale.step) → length (drift_bars scale first list width j n) ≤ 173 * n
  unfolding drift_bars drift_slot
  bars_most n few five =
      joined_most (drift_slot scale first list width j) 173 n
      (λ a h. omega (arith, length-append (drift_bar scale first list width j a) (drift_label scale first a), one_bar a (omega arith) (five a h), one_label a (omega arith)))

  by_most : (words : List ℕ) (one n : ℕ) → length words ≤ 256 → n ≤ 63 → ((a : ℕ) → a < n → nat_abs (share_at list width j a) ≤ 5 * scale.step)
      → length (drift_by words one scale first list width j n) ≤ 13700
  unfolding drift_by slots_of
  by_most words one n short few five =
      let s = slots_of n in
      let a = figure_start words s (foot_line scale) (unit_of one scale.step) in
      let b = ticks scale (wide_of s) (shown_step one scale.step) in
      let c = drift_bars scale first list width j n in
      let e = figure_end s (zero_line scale) in
      omega
      (arith, length-append a (b ++ (c ++ e)), length-append b (c ++ e), length-append c e, start_most words s (foot_line scale) (unit_of one scale.step) (omega arith) (foot_most scale k), ticks_most scale (wide_of s) (shown_step one scale.step) k (wide_most s (omega arith)), bars_most n few five, end_most s (zero_line scale) (omega arith) (top_most scale k))

module _ (first years width : ℕ) (list : List ℤ) (w : Windowed years width first) (small : Small list) where
  plot_most_lem : (j : ℕ) → length (drift_plot first list width j (position_count years width)) ≤ 13700
  unfolding drift_plot position_count
  plot_most_lem j =
      let n = position_count years width in
      let high = largest_share false list width j n in
      by_most (drift_scale list width j n) (scale_sound list width j small n) first w.first_most list width j (drift_words j (in_percent high)) (one_for high) n (words_most j (in_percent high)) (omega (arith, w.years_most, w.width_least)) (share_five list width j small n)

  pub drift_most : (html : Bool) → length (drift html first years width list) ≤ 219300
  unfolding drift drift_plots
  drift_most html =
      let plots = joined_most (λ j. drift_plot first list width j (position_count years width)) 13700 width (λ j l. plot_most_lem j) in
      let s = beside_start html in
      let p = drift_plots first years width list in
      let e = beside_end html in
      omega
      (arith, only_most html (s ++ (p ++ e)), length-append s (p ++ e), length-append p e, plots, beside_start_most html, beside_end_most html, w.width_most_lem)
