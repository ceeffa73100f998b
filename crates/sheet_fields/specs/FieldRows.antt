-- The rows of a record in a list that starts with its fields. Assumes nothing.
use Rattle.std.specs.Prelude.{ℕ, List, ℤ}
use Rattle.rules.specs.Lists.{padded}
use Rattle.rules.specs.Record.{exposures_in, indices_in, reporting_in, weight_in, ulae_in, tail_in}
use Rattle.sheet_fields.specs.declared.Rows.{Rows}

-- the rows of natural numbers, each in its array
abbrev pub rows : List ℕ → List ℕ → List ℕ → ℕ → List ℕ → ℕ → Rows
rows n e b w u a = record { exposures = n; indices = e; reporting = b; weight = w; ulae = u; tail = a }

unfoldable pub rows_of : ℕ → List ℤ → Rows
rows_of k vs =
    rows (padded 16 0 (exposures_in k vs)) (padded 16 0 (indices_in k vs)) (padded 16 0 (reporting_in k vs)) (weight_in k vs) (padded 16 0 (ulae_in k vs)) (tail_in k vs)
