-- Where the sections stand, in numbers. Assumes nothing.
use Prim.Native.Nat.{ℕ, ◌+◌, ◌*◌, ◌≤◌, ◌<◌}
use native.Mathlib.Omega.{arith}
use mathlib.Core.Path.{◌≡◌, sym, ◌∙◌}
use Rattle.rules.specs.Record.{cells}
use Rattle.rules.specs.Triangle.{future_start}
use Rattle.rules.specs.Results.{result_count}
use Rattle.laws.proofs.TriangleRows.{cells_most, cells_least}
use Rattle.laws.proofs.Joined.{future_cells_lem}
use Rattle.listing.specs.declared.Starts.{Starts}
use Rattle.listing.specs.Starts.{starts_of}
use Rattle.listing.proofs.Counts.{results_count}
use Rattle.listing.proofs.Known.{known, at_starts}
use Rattle.figure_places.specs.declared.Added.{Added}
use Rattle.figure_places.specs.Places.{added_at}
use Rattle.figure_places.proofs.Known.{Known, places_known}

pub record Numbers (a : Added) (s : Starts) (k : ℕ) : Type 0 where
  pub few : k < 16
  pub most : cells k ≤ 136
  pub least : k < cells k
  pub future : cells k ≡ future_start (k + 1) + (k + 1)
  pub count : result_count k ≡ 3 * cells k + 6 * k + 7
  pub added : Known a k
  pub shares : s.shares ≡ cells k
  pub levels : s.levels ≡ cells k + (k + 1)
  pub payments : s.payments ≡ cells k + 2 * (k + 1) + k
  pub provisions : s.provisions ≡ 2 * cells k + (k + 1) + k
  pub completed : s.completed ≡ 2 * cells k + 4 * (k + 1) + 2 * k + 3
  pub tails : s.tails ≡ 3 * cells k + 3 * (k + 1) + 2 * k + 3

pub numbers : (a : Added) (s : Starts) (k : ℕ) → k < 16 → a ≡ added_at k → s ≡ starts_of k → Numbers a s k
numbers a s k h e f =
    let at = at_starts s k f in
    let is = known k in
    record {
      few = h;
      most = cells_most k h;
      least = cells_least k;
      future = future_cells_lem k;
      count = results_count k;
      added = places_known a k e;
      shares = at.shares ∙ is.shares;
      levels = at.levels ∙ is.levels;
      payments = at.payments ∙ is.payments;
      provisions = at.provisions ∙ is.provisions;
      completed = at.completed ∙ is.completed;
      tails = at.tails ∙ is.tails;
    }
