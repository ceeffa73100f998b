-- The sum of absolute gaps of one step of a hindsight run. Assumes nothing.
use Rattle.std.specs.Prelude.{ℕ, ◌+◌, List, ℤ, nat_abs}
use Rattle.rules.specs.Lists.{total, up_to}
use Rattle.hindsight_places.specs.Places.{gap_at}

-- of step h with setting a: over origin years 1 to h
unfoldable pub step_sum : List ℤ → ℕ → ℕ → ℕ → ℕ
step_sum list k a h = total (up_to (λ m. nat_abs (gap_at list k a h (m + 1))) h)
