-- How large shares and levels are. Assumes nothing.
use Rattle.std.specs.Prelude.{ℕ, ◌≤◌, List, get_or}
use Rattle.rules.specs.Separation.{billion}

-- none is above S
abbrev pub Small : List ℕ → Type 0
Small xs = (i : ℕ) → get_or xs i 0 ≤ billion
