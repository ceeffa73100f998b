-- What has passed the writer's questions 1, 2 and 4, row by row. Assumes nothing.
use Rattle.std.specs.Prelude.{ℕ, ◌≡◌, Bool, true, ◌&&◌}
use Rattle.rules.specs.Record.{Figures, increment, in_range, million, most_amount, most_index}
use Rattle.rules.specs.Writing.{given_last_year, given_lengths}
use Rattle.rules.specs.Lists.{every, between}

-- question 4 row by row
unfoldable pub ranges_of : Figures → Bool
ranges_of g =
    every (between 1 million) g.exposures
    && (every (in_range increment) g.increments
    && (every (between 1 most_index) g.indices
    && (every (between 0 million) g.reporting
    && (between 0 million g.weight && (every (between 0 most_amount) g.ulae && between 0 most_amount g.tail)))))

-- what has passed questions 1, 2 and 4, with a buffer of m bytes
pub record Writable (g : Figures) (m : ℕ) : Type 0 where
  pub years : given_last_year g ≡ true
  pub lengths : given_lengths g m ≡ true
  pub ranges : ranges_of g ≡ true
