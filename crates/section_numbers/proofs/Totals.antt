-- Sums of whole numbers, one number a turn. Assumes nothing.
use Prim.Native.Nat.{ℕ, ◌+◌}
use native.Mathlib.Numerals.{add-one}
use mathlib.Core.Path.{◌≡◌, sym}
use Rattle.rules.specs.Lists.{total, up_to}
use Rattle.laws.proofs.Totals.{total_more}

pub total_next : (f : ℕ → ℕ) (n : ℕ) → total (up_to f n) + f n ≡ total (up_to f (n + 1))
total_next f n = rw (add-one n) (sym (total_more f n))
