-- What the routine of an index answers. Assumes nothing.
use Rattle.std.specs.Prelude.{ℕ, cond}
use Rattle.rules.specs.Lists.{between}
use Rattle.rules.specs.Record.{most_index}

-- an index from 1 to 5,000,000, and 0 for any other number
unfoldable pub if_an_index : ℕ → ℕ
if_an_index w = cond (between 1 most_index w) w 0
