-- What stands in a plot by its scale: ticks and bars, as SVG. Assumes nothing.
use Rattle.std.specs.Prelude.{ℕ, ◌+◌, ◌-◌, ◌*◌, false, cond, List, [], ◌++◌, ltb, ℤ, pos, nat_abs}
use Rattle.rules.specs.Lists.{up_to, joined}
use Rattle.composing.specs.Text.{ascii}
use Rattle.numerals.specs.Numerals.{spaced}
use Rattle.axis.specs.declared.Scale.{Scale}
use Rattle.axis.specs.Axis.{side_of, zero_line, foot_line, height_of}
use Rattle.shapes.specs.Shapes.{tick_line, shape, told}

-- the number at tick t from below, q a step: with a minus below zero
unfoldable pub tick_number : ℕ → ℕ → ℕ → List ℕ
tick_number down t q = cond (ltb t down) (ascii "-") [] ++ spaced 0 (pos ((t - down + (down - t)) * q))

-- tick t from below
unfoldable pub tick_at : Scale → ℕ → ℕ → ℕ → List ℕ
tick_at s wide q t = tick_line wide (foot_line s - s.tick * t) ++ (ascii "\">" ++ (tick_number s.down t q ++ ascii "</text>\n"))

unfoldable pub ticks : Scale → ℕ → ℕ → List ℕ
ticks s wide q = joined (up_to (tick_at s wide q) (s.up + s.down + 1))

-- the bar of a value: up from the line at zero, and down from it below zero
unfoldable pub bar : Scale → ℕ → ℕ → ℕ → ℕ → ℕ → ℤ → List ℕ
bar s mark x w label d z = shape mark x (zero_line s - height_of s (side_of false z)) w (height_of s (nat_abs z)) ++ told label d z
