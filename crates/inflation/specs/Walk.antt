-- What the inner routines answer. Assumes nothing.
use Rattle.std.specs.Prelude.{ℕ, Bool, List, replicate}
use Rattle.rules.specs.Lists.{padded, between}
use Rattle.rules.specs.Record.{most_index}
use Rattle.rules.specs.Inflation.{most_years, index_after}
use Rattle.rules.specs.declared.Inflation.{Inflation}
use Rattle.rules.specs.declared.Indices.{Indices}
use Rattle.entries.specs.Leading.{leading}

-- a refusal, with no index
abbrev pub refusal : ℕ → Indices
refusal number = record { refused = number; values = replicate most_years 0 }

-- the indices of an accepted call, zeros past them
abbrev pub accepted : List ℕ → Indices
accepted indices = record { refused = 0; values = padded most_years 0 indices }

-- whether the index n years after the first is from 1 to 5,000,000
abbrev pub is_index_at : Inflation → ℕ → Bool
is_index_at shape n = between 1 most_index (index_after shape n)

-- how many of the years wanted come before the first whose index leaves that range
unfoldable pub years_within : Inflation → ℕ → ℕ
years_within shape years = leading (is_index_at shape) years
