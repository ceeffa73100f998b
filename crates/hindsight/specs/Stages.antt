-- The lent report of a hindsight run once it is filled. Assumes nothing.
use Rattle.std.specs.Prelude.{ℕ, List, ℤ}
use Rattle.std.proofs.lemmas.List.Edits.{sets}
use Rattle.rules.specs.Record.{figures_of}
use Rattle.rules.specs.Hindsight.{hindsight_list, hindsight_of}

-- by figures
abbrev pub filled_by : ℕ → List ℕ → List ℤ → List ℕ → List ℤ → List ℤ
filled_by k n p settings held = sets held 0 (hindsight_list k n p settings)

-- by a record
abbrev pub filled_of : List ℕ → List ℕ → List ℤ → List ℤ
filled_of s settings held = sets held 0 (hindsight_of (figures_of s) settings)
