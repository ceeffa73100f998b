-- The bars of the plot of a development year's share by position, fifteen places apart, and under every second one the first origin year of the position. Assumes nothing.
use Rattle.std.specs.Prelude.{ℕ, ◌+◌, ◌*◌, ◌%◌, ◌≤◌, ◌<◌, false, cond, List, [], ◌++◌, eqb, ℤ}
use Rattle.rules.specs.Lists.{up_to, joined}
use Rattle.axis.specs.declared.Scale.{Scale}
use Rattle.axis.specs.Axis.{side_of, foot_line, Sound}
use Rattle.shapes.specs.Shapes.{slot_label}
use Rattle.drawing.specs.Drawing.{bar}
use Rattle.figure_caption.specs.Caption.{dark}
use Rattle.history_places.specs.Places.{Inside, refused, Small}
use Rattle.drift_scale.specs.Scales.{share_at}

-- the bar of position a; a refused one has none
unfoldable pub drift_bar : Scale → ℕ → List ℤ → ℕ → ℕ → ℕ → List ℕ
drift_bar scale first list width j a =
    cond (refused list width a) [] (bar scale dark (58 + 15 * a) 11 (first + a) 9 (share_at list width j a))

-- its label
unfoldable pub drift_label : Scale → ℕ → ℕ → List ℕ
drift_label scale first a = cond (eqb (a % 2) 0) (slot_label (63 + 15 * a) (foot_line scale + 16) (first + a)) []

unfoldable pub drift_slot : Scale → ℕ → List ℤ → ℕ → ℕ → ℕ → List ℕ
drift_slot scale first list width j a = drift_bar scale first list width j a ++ drift_label scale first a

-- the bars and labels of n positions
unfoldable pub drift_bars : Scale → ℕ → List ℤ → ℕ → ℕ → ℕ → List ℕ
drift_bars scale first list width j n = joined (up_to (drift_slot scale first list width j) n)

-- what the code asks of a scale and a position: the ticks up reach its share
pub record Drawn (scale : Scale) (first : ℕ) (list : List ℤ) (width j a : ℕ) : Type 0 where
  pub scale_sound : Sound scale
  pub first_most : first ≤ 65535
  pub small : Small list
  pub inside : Inside width a
  pub year_inside : j < width
  pub reached : side_of false (share_at list width j a) ≤ scale.up * scale.step

-- of n positions
abbrev pub AllDrawn : Scale → ℕ → List ℤ → ℕ → ℕ → ℕ → Type 0
AllDrawn scale first list width j n = (a : ℕ) → a < n → Drawn scale first list width j a
