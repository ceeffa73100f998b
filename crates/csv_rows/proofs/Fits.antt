-- Sections within the list, by their shapes. Assumes nothing.
use Prim.Native.Nat.{ℕ, ◌+◌, ◌≤◌, ◌<◌}
use native.Mathlib.Omega.{arith}
use Rattle.rules.specs.Triangle.{future_start}
use Rattle.rules.specs.Results.{most_entries}
use Rattle.rows.specs.Rows.{entries_in}
use Rattle.rows.proofs.Counts.{entries_level, entries_rising, entries_falling}
use Rattle.csv_rows.specs.Csv.{given_cells, future_cells, by_origin, by_year, alone}
use Rattle.csv_rows.specs.declared.Shape.{Shape}

abbrev pub RowsFit : Shape → ℕ → Type 0
RowsFit s p = (s.n ≤ 16) × ((s.rows.blank ≤ 16) × ((s.rows.up ≤ 1) × (p + entries_in s.n s.rows ≤ most_entries)))

pub given_fits : (k p : ℕ) → k < 16 → p + (future_start (k + 1) + (k + 1)) ≤ most_entries → RowsFit (given_cells k) p
given_fits k p h l = (omega arith, (omega arith, (omega arith, omega (arith, entries_falling (k + 1)))))

pub future_fits : (k p : ℕ) → k < 16 → p + future_start (k + 1) ≤ most_entries → RowsFit (future_cells k) p
future_fits k p h l = (omega arith, (omega arith, (omega arith, omega (arith, entries_rising (k + 1) (k + 1)))))

pub origin_fits : (k p : ℕ) → k < 16 → p + (k + 1) ≤ most_entries → RowsFit (by_origin k) p
origin_fits k p h l = (omega arith, (omega arith, (omega arith, omega (arith, entries_level (k + 1) 0 1))))

pub year_fits : (y m p : ℕ) → y ≤ 16 → p + m ≤ most_entries → RowsFit (by_year y m) p
year_fits y m p h l = (omega arith, (omega arith, (omega arith, omega (arith, entries_level 1 y m))))

pub alone_fits : (p : ℕ) → p < most_entries → RowsFit alone p
alone_fits p h = (omega arith, (omega arith, (omega arith, omega (arith, entries_level 1 0 1))))
