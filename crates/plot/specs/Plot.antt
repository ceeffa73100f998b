-- A plot: bars upward from zero, and downward below it. Its values stand in a list, those of a slot `stride` places after those of the slot before. A slot has two
-- bars, dark and light, or one, which is dark in the first `split` slots and light after them; its label is a year. Assumes nothing.
use Rattle.std.specs.Prelude.{ℕ, zero, suc, ◌+◌, ◌*◌, ◌≤◌, ◌<◌, max, ◌≡◌, Bool, true, false, cond, List, ◌++◌, eqb, ltb, ℤ, pos, nat_abs, length, get_or}
use Rattle.rules.specs.Lists.{up_to, joined}
use Rattle.axis.specs.declared.Scale.{Scale}
use Rattle.axis.specs.Axis.{most_plotted, side_of, scale_of, zero_line, foot_line, unit_of, shown_step}
use Rattle.drawing.specs.Drawing.{ticks, bar}
use Rattle.shapes.specs.Shapes.{slot_label}
use Rattle.figure_caption.specs.Caption.{wide_of, dark, light}
use Rattle.figure.specs.Figure.{figure_start, figure_end}
use Rattle.plot.specs.declared.Series.{Series}

-- the values of slot c
abbrev pub first_bar : List ℤ → Series → ℕ → ℤ
first_bar values s c = get_or values (s.start + c * s.stride) (pos 0)

abbrev pub second_bar : List ℤ → Series → ℕ → ℤ
second_bar values s c = get_or values (s.start + c * s.stride + 1) (pos 0)

-- how far they go above zero, or below it
unfoldable pub slot_largest : Bool → List ℤ → Series → ℕ → ℕ
slot_largest low values s c =
    cond (eqb s.bars 2) (max (side_of low (first_bar values s c)) (side_of low (second_bar values s c))) (side_of low (first_bar values s c))

-- and those of the first n slots
unfoldable pub largest_in : Bool → List ℤ → Series → ℕ → ℕ
largest_in low values s zero = 0
largest_in low values s (suc n) = max (largest_in low values s n) (slot_largest low values s n)

-- the scale: by the largest value, 0 at least, and the largest size of a value below 0
unfoldable pub scale_for : ℕ → List ℤ → Series → Scale
scale_for one values s = scale_of one (largest_in false values s s.slots) (largest_in true values s s.slots)

-- where slot c starts from the left
abbrev pub left : ℕ → ℕ
left c = 56 + 30 * c

unfoldable pub slot_bars : Scale → ℕ → ℕ → List ℤ → Series → ℕ → List ℕ
slot_bars scale d label values s c =
    cond
    (eqb s.bars 2)
    (bar scale dark (left c + 2) 13 label d (first_bar values s c) ++ bar scale light (left c + 15) 13 label d (second_bar values s c))
    (bar scale (cond (ltb c s.split) dark light) (left c + 4) 22 label d (first_bar values s c))

unfoldable pub slot : Scale → ℕ → ℕ → List ℤ → Series → ℕ → List ℕ
slot scale d first values s c = slot_bars scale d (first + c) values s c ++ slot_label (left c + 15) (foot_line scale + 16) (first + c)

unfoldable pub plot_by : List ℕ → ℕ → ℕ → ℕ → List ℤ → Series → Scale → List ℕ
plot_by words one d first values s scale =
    figure_start words s.slots (foot_line scale) (unit_of one scale.step)
    ++ (ticks scale (wide_of s.slots) (shown_step one scale.step)
    ++ (joined (up_to (slot scale d first values s) s.slots) ++ figure_end s.slots (zero_line scale)))

-- `one` of the values' units make one of the axis, and they have d decimals
unfoldable pub plot : List ℕ → ℕ → ℕ → ℕ → List ℤ → Series → List ℕ
plot words one d first values s = plot_by words one d first values s (scale_for one values s)

-- what a slot's values are to be: in the list, and not too large
pub record Plotted (values : List ℤ) (s : Series) (c : ℕ) : Type 0 where
  pub first_inside : s.start + c * s.stride < length values
  pub second_inside : s.bars ≡ 2 → s.start + c * s.stride + 1 < length values
  pub first_most : nat_abs (first_bar values s c) ≤ most_plotted
  pub second_most : s.bars ≡ 2 → nat_abs (second_bar values s c) ≤ most_plotted

-- and within the ticks up
pub record Reached (scale : Scale) (values : List ℤ) (s : Series) (c : ℕ) : Type 0 where
  pub first_reached : side_of false (first_bar values s c) ≤ scale.up * scale.step
  pub second_reached : s.bars ≡ 2 → side_of false (second_bar values s c) ≤ scale.up * scale.step

-- of every slot
abbrev pub AllPlotted : List ℤ → Series → Type 0
AllPlotted values s = (c : ℕ) → c < s.slots → Plotted values s c

abbrev pub AllReached : Scale → List ℤ → Series → Type 0
AllReached scale values s = (c : ℕ) → c < s.slots → Reached scale values s c
