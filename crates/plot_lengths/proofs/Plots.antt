-- How long a plot is at most, by its slots, the decimals of its values and its words. Assumes nothing.
use mathlib.Core.Path.{◌≡◌}
use mathlib.Core.Bool.{true, false, cond}
use mathlib.Core.List.{List, ◌++◌}
use Prim.Native.Nat.{ℕ, ◌+◌, ◌*◌, ◌≤◌, ◌<◌}
use native.Mathlib.Decide.{ℕ_discrete}
use native.Mathlib.Omega.{arith}
use borrow.Author.Tests.{eq-eqb, ne_eqb}
use lib.Dec.{ltb}
use lib.IntN.{ℤ, nat_abs}
use lib.ListN.{length, length-append}
use Rattle.rules.specs.Lists.{up_to, joined}
use Rattle.axis.specs.declared.Scale.{Scale}
use Rattle.axis.specs.Axis.{most_one, zero_line, foot_line, unit_of, shown_step, Sound}
use Rattle.axis.proofs.Axis.{sides, scale_reaches, foot_most}
use Rattle.drawing.specs.Drawing.{ticks, bar}
use Rattle.shapes.specs.Shapes.{slot_label}
use Rattle.plot_lengths.proofs.Drawn.{joined_most, three, four, top_most, bar_most, label_most_lem, ticks_most}
use Rattle.figure_caption.specs.Caption.{wide_of, dark, light}
use Rattle.figure.specs.Figure.{figure_start, figure_end}
use Rattle.plot_lengths.proofs.Framed.{wide_most, start_most, end_most}
use Rattle.plot.specs.declared.Series.{Series}
use Rattle.plot.specs.Plot.{first_bar, second_bar, largest_in, scale_for, left, slot_bars, slot, plot_by, plot, AllPlotted}
use Rattle.plot.proofs.Slots.{largest_most, slot_within, slot_first, slot_second, scale_sound}

-- the most of a slot: two bars and a label
abbrev pub slot_most : ℕ → ℕ
slot_most d = 282 + 2 * d

bars_most : (scale : Scale) (d label : ℕ) (values : List ℤ) (s : Series) (c : ℕ) → Sound scale → c < 32 → label < 1000000 → nat_abs (first_bar values s c) ≤ 5 * scale.step
    → (s.bars ≡ 2 → nat_abs (second_bar values s c) ≤ 5 * scale.step) → length (slot_bars scale d label values s c) ≤ 235 + 2 * d
unfolding slot_bars
bars_most scale d label values s c h l m one two = go (ℕ_discrete s.bars 2)
  where
    go : Dec (s.bars ≡ 2) → length (slot_bars scale d label values s c) ≤ 235 + 2 * d
    go (yes e) =
        let a = bar scale dark (left c + 2) 13 label d (first_bar values s c) in
        let b = bar scale light (left c + 15) 13 label d (second_bar values s c) in
        rw (eq-eqb s.bars 2 e)
        (omega
        (arith, length-append a b, bar_most scale dark (left c + 2) 13 label d 3 (first_bar values s c) h (three (left c + 2) (omega arith)) (omega arith) m one, bar_most scale light (left c + 15) 13 label d 4 (second_bar values s c) h (four (left c + 15) (omega arith)) (omega arith) m (two e)))
    go (no e) =
        let mark = cond (ltb c s.split) dark light in
        rw (ne_eqb s.bars 2 e)
        (omega (arith, bar_most scale mark (left c + 4) 22 label d 3 (first_bar values s c) h (three (left c + 4) (omega arith)) (omega arith) m one))

module _ (one d first : ℕ) (values : List ℤ) (s : Series) (h : 1 ≤ one) (m : one ≤ most_one) (l : first ≤ 100000) (few : s.slots ≤ 32) (p : AllPlotted values s) where
  -- every size is within five steps
  first_five : (c : ℕ) → c < s.slots → nat_abs (first_bar values s c) ≤ 5 * (scale_for one values s).step
  unfolding scale_for
  first_five c i =
      let n = s.slots in
      omega
      (arith, sides (first_bar values s c), slot_first false values s c, slot_first true values s c, slot_within false values s n c i, slot_within true values s n c i, scale_reaches one (largest_in false values s n) (largest_in true values s n) h (largest_most false values s n p) (largest_most true values s n p))

  second_five : (c : ℕ) → c < s.slots → s.bars ≡ 2 → nat_abs (second_bar values s c) ≤ 5 * (scale_for one values s).step
  unfolding scale_for
  second_five c i e =
      let n = s.slots in
      omega
      (arith, sides (second_bar values s c), slot_second false values s c e, slot_second true values s c e, slot_within false values s n c i, slot_within true values s n c i, scale_reaches one (largest_in false values s n) (largest_in true values s n) h (largest_most false values s n p) (largest_most true values s n p))

  slot_most_lem : (c : ℕ) → c < s.slots → length (slot (scale_for one values s) d first values s c) ≤ slot_most d
  unfolding slot
  slot_most_lem c i =
      let scale = scale_for one values s in
      let k = scale_sound one values s h m p in
      let bars = slot_bars scale d (first + c) values s c in
      let label = slot_label (left c + 15) (foot_line scale + 16) (first + c) in
      omega
      (arith, length-append bars label, bars_most scale d (first + c) values s c k (omega arith) (omega arith) (first_five c i) (second_five c i), label_most_lem (left c + 15) (foot_line scale + 16) (first + c) (omega arith) (omega (arith, foot_most scale k)) (omega arith))

  pub plot_most_lem : (words : List ℕ) → length (plot words one d first values s) ≤ 1263 + 6 * length words + slot_most d * s.slots
  unfolding plot plot_by
  plot_most_lem words =
      let scale = scale_for one values s in
      let k = scale_sound one values s h m p in
      let n = s.slots in
      let a = figure_start words n (foot_line scale) (unit_of one scale.step) in
      let b = ticks scale (wide_of n) (shown_step one scale.step) in
      let c = joined (up_to (slot scale d first values s) n) in
      let e = figure_end n (zero_line scale) in
      omega
      (arith, length-append a (b ++ (c ++ e)), length-append b (c ++ e), length-append c e, start_most words n (foot_line scale) (unit_of one scale.step) few (foot_most scale k), ticks_most scale (wide_of n) (shown_step one scale.step) k (wide_most n few), joined_most (slot scale d first values s) (slot_most d) n slot_most_lem, end_most n (zero_line scale) few (top_most scale k))
