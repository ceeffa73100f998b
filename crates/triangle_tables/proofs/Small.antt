-- Squares and columns of small figures have small numbers. Assumes nothing.
use Prim.Native.Nat.{ℕ, ◌+◌}
use native.Mathlib.Omega.{arith}
use mathlib.Core.List.{List}
use lib.IntN.{ℤ}
use Rattle.rules.specs.Record.{cells}
use Rattle.rules.specs.Triangle.{future_start}
use Rattle.signed_sums.specs.Small.{Sized}
use Rattle.table_cells.specs.Cells.{plain, future, styled}
use Rattle.placing.specs.Placing.{Grid, past_rows, AtMost}
use Rattle.placing.proofs.Small.{placed_small, past_small, future_small}
use Rattle.triangle_tables.specs.Tables.{square, column_of}

pub square_small : (b c past ahead k : ℕ) (xs : List ℤ) (g : Grid) → Sized b past (cells k) xs → Sized b ahead (future_start (k + 1)) xs → AtMost b g → AtMost b (square c past ahead k xs g)
unfolding square
square_small b c past ahead k xs g p q h =
    future_small b (styled future 0) c ahead k (k + 1) xs (past_rows (λ m. styled plain 0) c past k (k + 1) xs g) (omega arith) q
    (past_small b (λ m. styled plain 0) c past k (k + 1) xs g (omega arith) p h)

pub column_small : (b style j c start k : ℕ) (xs : List ℤ) (g : Grid) → Sized b start (k + 1) xs → AtMost b g → AtMost b (column_of style j c start k xs g)
unfolding column_of
column_small b style j c start k xs g p h = placed_small b (λ m. style) j c start (k + 1) xs g p h
