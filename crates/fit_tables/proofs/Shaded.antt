-- A triangle with the styles that stand in an array. Assumes nothing.
use Prim.Native.Nat.{ℕ, ◌+◌}
use native.Mathlib.Omega.{arith}
use mathlib.Core.Path.{◌≡◌}
use mathlib.Core.List.{List}
use lib.IntN.{ℤ}
use lib.ListN.{get_or}
use Rattle.rules.specs.Lists.{up_to, padded}
use Rattle.rules.specs.Record.{cells}
use Rattle.laws.proofs.Padded.{filled_at}
use Rattle.placing.specs.Placing.{grid, blank, Holds, past_rows}
use Rattle.placing.proofs.Placed.{past_same}
use Rattle.triangle_tables.proofs.Rooms.{next}

pub shaded : (κ : ℕ → ℕ) (c start k : ℕ) (xs : List ℤ) {kinds : List ℕ} {values values' : List ℤ} {styles styles' : List ℕ} → kinds ≡ padded 136 0 (up_to κ (cells k)) → Holds blank values styles
    → Holds (past_rows (λ m. get_or kinds m 0) c start k (k + 1) xs (grid values styles)) values' styles' → Holds (past_rows κ c start k (k + 1) xs blank) values' styles'
shaded κ c start k xs {kinds} {values} {values'} {styles} {styles'} e h p =
    let same = past_same (λ m. get_or (padded 136 0 (up_to κ (cells k))) m 0) κ c start k (k + 1) xs blank (omega arith) (λ m l. filled_at 136 0 κ (cells k) m 0 l) in
    rw same at (next (past_rows (λ m. get_or (padded 136 0 (up_to κ (cells k))) m 0) c start k (k + 1) xs) blank h (rw e at p))
