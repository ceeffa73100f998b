-- The report's figures of a record and a result list of it. Assumes nothing.
use Rattle.std.specs.Prelude.{ℕ, ◌+◌, ◌≤◌, List, ℤ, length}
use Rattle.rules.specs.Record.{figures_of}
use Rattle.rules.specs.Separation.{billion}
use Rattle.rules.specs.Results.{share_section, level_section, result_count, section_start}
use Rattle.signed_sums.specs.Small.{Sized}
use Rattle.page_figures.specs.Given.{most_given}
use Rattle.page_figures.specs.Shown.{shown_figures}

unfoldable pub record_figures : List ℤ → List ℕ → List ℤ
record_figures list s =
    let f = figures_of s in
    shown_figures f.k list f.exposures f.increments f.indices f.reporting f.ulae

-- a result list of the years 0 to k, or as many small numbers
pub record Listed (k : ℕ) (list : List ℤ) : Type 0 where
  pub long : result_count k ≤ length list
  pub entries : Sized most_given 0 (result_count k) list
  pub shares : Sized billion (section_start k share_section) (k + 1) list
  pub levels : Sized billion (section_start k level_section) (k + 1) list
