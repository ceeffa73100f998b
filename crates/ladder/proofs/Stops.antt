-- What is answered and stored where a year fails question 13, or a cumulative question 14. Assumes nothing.
use mathlib.Core.Path.{◌≡◌, sym}
use mathlib.Core.Bool.{Bool, true, false, and-false}
use mathlib.Core.List.{List}
use Prim.Native.Nat.{ℕ, suc, ◌-◌, ◌+◌, ◌*◌, ◌/◌, ◌<◌}
use borrow.Author.Tests.{lt-leb}
use lib.Dec.{leb}
use lib.ListN.{get_or}
use lib.Seq.{sets}
use Rattle.rules.specs.Lists.{up_to, below, every}
use Rattle.rules.specs.Record.{million}
use Rattle.rules.specs.Triangle.{most_cumulative}
use Rattle.rules.specs.Ladder.{development_factor, most_factor, factor_passes, factors_pass, completed, completed_row}
use Rattle.entries.specs.Leading.{leading, passing}
use Rattle.entries.proofs.Leading.{leading_stop, stop_value}
use Rattle.laws.proofs.Lists.{fails_at}
use Rattle.ladder.specs.Columns.{developed_in, base_in}

-- the factor of year h, and question 13 of it
abbrev pub factor_at : ℕ → List ℕ → List ℕ → ℕ → ℕ
factor_at k v c h = development_factor (developed_in v h) (base_in k v c h)

abbrev pub passes : ℕ → List ℕ → List ℕ → ℕ → Bool
passes k v c h = factor_passes (developed_in v h) (base_in k v c h)

-- what is answered and stored where a year fails: what was stored before it
abbrev Stopped : ℕ → List ℕ → List ℕ → List ℕ → ℕ → Type 0
Stopped k v c out h =
    (sets out 0 (up_to (factor_at k v c) h) ≡ sets out 0 (up_to (factor_at k v c) (leading (passes k v c) k)))
    × (false ≡ factors_pass k (developed_in v) (base_in k v c))

module _ (k : ℕ) (v c out : List ℕ) (h : ℕ) (early : h < k) (passed : every (passes k v c) (below h) ≡ true) where
  -- the first year that fails
  stopped : passes k v c h ≡ false → Stopped k v c out h
  unfolding factors_pass
  stopped failed = (rw (leading_stop (passes k v c) k h early passed failed), sym (fails_at (passes k v c) (λ (j : ℕ). j) k h early failed))

  -- by its base
  pub base_stopped : get_or v h 0 - get_or c (k - h) 0 < 1 → Stopped k v c out h
  unfolding factor_passes base_in
  base_stopped low = stopped (rw (lt-leb 1 (base_in k v c h) low))

  -- by its factor
  pub factor_stopped : most_factor < million * get_or v (h + 1) 0 / (get_or v h 0 - get_or c (k - h) 0) → Stopped k v c out h
  unfolding factor_passes development_factor developed_in base_in
  factor_stopped high = stopped (rw (lt-leb (development_factor (developed_in v h) (base_in k v c h)) most_factor high, and-false))

-- the limit, and cumulative t of row i past the diagonal
abbrev pub within : ℕ → Bool
within x = leb x most_cumulative

abbrev pub past : ℕ → List ℕ → List ℕ → ℕ → ℕ → ℕ
past k c m i t = completed k c m i (suc t)

-- the first cumulative that fails
pub row_stopped : (k : ℕ) (c m : List ℕ) (i : ℕ) (out : List ℕ) (at t : ℕ) → t < i
    → every within (up_to (past k c m i) t) ≡ true → most_cumulative < completed k c m i t * get_or m (k - i + t) 0 / million
    → (sets out at (up_to (past k c m i) t) ≡ sets out at (passing within (completed_row k c m i))) × (false ≡ every within (completed_row k c m i))
unfolding completed completed_row
row_stopped k c m i out at t l passed high =
    let failed = lt-leb (past k c m i t) most_cumulative high in
    let both = stop_value within (past k c m i) i t l passed failed in
    (rw both.1, sym both.0)
