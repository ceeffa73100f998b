-- The line of inflation that a report shows: one whose rates make the indices of the record. Assumes nothing.
use Rattle.std.specs.Prelude.{ℕ, ◌+◌, ◌≤◌, ◌≡◌, Bool, true, ◌&&◌, cond, List, [], eqb, get_or}
use Rattle.rules.specs.Lists.{up_to, below, every}
use Rattle.rules.specs.Record.{last_year_of, figures_of}
use Rattle.rules.specs.Inflation.{index_after}
use Rattle.inflation_line.specs.InflationLine.{is_inflation, shape_of, fault_in}

-- whether the first n numbers of two lists are the same
unfoldable pub same_first : ℕ → List ℕ → List ℕ → Bool
same_first n xs ys = every (λ i. eqb (get_or xs i 0) (get_or ys i 0)) (below n)

-- whether a line is one of inflation with nothing wrong with it, and the k + 1 indices that its rates make are those of the record s
unfoldable pub makes_indices : List ℕ → List ℕ → Bool
makes_indices s line =
    let years = last_year_of s + 1 in
    is_inflation line && (eqb (fault_in years line).kind 0 && same_first years (figures_of s).indices (up_to (index_after (shape_of line)) years))

-- the line that is shown, none where it does not make them
unfoldable pub shown_rates : List ℕ → List ℕ → List ℕ
shown_rates s line = cond (makes_indices s line) line []

-- what is so of a record and a line that makes its indices: e_t is at place t − 1
pub record Made (s line : List ℕ) : Type 0 where
  pub labelled : is_inflation line ≡ true
  pub faultless : (fault_in (last_year_of s + 1) line).kind ≡ 0
  pub indices : (n : ℕ) → n ≤ last_year_of s → get_or (figures_of s).indices n 0 ≡ index_after (shape_of line) n
