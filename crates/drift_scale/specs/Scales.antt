-- The scale of the plot of a development year's share by position: its own, so that the drift of a small share is seen. Assumes nothing.
use Rattle.std.specs.Prelude.{ℕ, zero, suc, ◌+◌, max, Bool, true, false, cond, List, leb, ℤ}
use Rattle.axis.specs.declared.Scale.{Scale}
use Rattle.axis.specs.Axis.{side_of, scale_of}
use Rattle.history_places.specs.Places.{position_entry}

-- the share of development year j in position a, after the position's number
abbrev pub share_at : List ℤ → ℕ → ℕ → ℕ → ℤ
share_at list width j a = position_entry list width a (1 + j)

-- how far the shares of the first n positions go above zero, or below it
unfoldable pub largest_share : Bool → List ℤ → ℕ → ℕ → ℕ → ℕ
largest_share low list width j zero = 0
largest_share low list width j (suc n) = max (largest_share low list width j n) (side_of low (share_at list width j n))

-- the axis is in percent where the largest share has one at least, and else in thousandths of a percent; both in billionths
unfoldable pub in_percent : ℕ → Bool
in_percent high = leb 10000000 high

unfoldable pub one_for : ℕ → ℕ
one_for high = cond (in_percent high) 10000000 10000

unfoldable pub drift_scale : List ℤ → ℕ → ℕ → ℕ → Scale
drift_scale list width j n =
    scale_of (one_for (largest_share false list width j n)) (largest_share false list width j n) (largest_share true list width j n)
