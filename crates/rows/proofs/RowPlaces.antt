-- Where the sections of the result list stand. Assumes nothing.
use mathlib.Core.Path.{◌≡◌}
use Prim.Native.Nat.{ℕ, ◌+◌, ◌≤◌, ◌<◌}
use Rattle.rules.specs.Triangle.{future_start}
use Rattle.rules.specs.Record.{cells}
use Rattle.laws.proofs.TriangleRows.{cells_most}
use Rattle.laws.proofs.Joined.{future_cells_lem}
use Rattle.listing.specs.Starts.{starts_of}
use Rattle.listing.specs.declared.Starts.{Starts}
use Rattle.listing.proofs.Known.{SectionsKnown, known, At, at_starts}

-- what is known of the starts of the sections
pub record Placed (s : Starts) (k : ℕ) : Type 0 where
  pub at : At s k
  pub known : SectionsKnown k
  pub most : cells k ≤ 136
  pub future : cells k ≡ future_start (k + 1) + (k + 1)

pub placed : (s : Starts) (k : ℕ) → k < 16 → s ≡ starts_of k → Placed s k
placed s k h e = record { at = at_starts s k e; known = known k; most = cells_most k h; future = future_cells_lem k }
