-- The figures of a report are small enough for its tables and plots. Assumes nothing.
use Prim.Native.Nat.{ℕ, ◌<◌}
use mathlib.Core.List.{List}
use lib.IntN.{ℤ}
use Rattle.page_figures.specs.Given.{Given, Figured}
use Rattle.page_figures.specs.Shown.{given_figures, worked_triangles, worked_figures, shown_figures}
use Rattle.page_figures.proofs.Giving.{given_based}
use Rattle.page_figures.proofs.Working.{all_worked}
use Rattle.page_figures.proofs.Combining.{all_figured}

pub figured : (k : ℕ) (list : List ℤ) (n : List ℕ) (p : List ℤ) (e b u : List ℕ) → k < 16 → Given k list n p e b u → Figured k (shown_figures k list n p e b u)
unfolding shown_figures
figured k list n p e b u few given =
    let xs = given_figures k list n p e b u in
    let worked = all_worked k xs few (given_based k list n p e b u few given) in
    all_figured k (worked_figures k (worked_triangles k xs)) few worked.long worked.entries
