-- What is put into the result list, each list in its array, and the list of it. Assumes nothing.
use Rattle.std.specs.Prelude.{ℕ, ◌+◌, ◌-◌, ◌<◌, List, ◌++◌, ℤ, take}
use Rattle.rules.specs.Lists.{up_to, joined}
use Rattle.rules.specs.Record.{cells}
use Rattle.rules.specs.Expense.{not_reported, reserve}
use Rattle.rules.specs.Results.{separation_sections, completion_sections, reserve_sections, ladder_sections, tail_sections}
use Rattle.expense.specs.Reservable.{Reservable}
use Rattle.listing.specs.Starts.{Addable}

-- what is put into the list: shares r, levels l, future levels a, payments y, provisions q, paid cumulatives c, reporting shares b, the weight w, the
-- ratio, development factors m, completed cumulatives x and tail payments z, each within its limits
pub record Printable (k : ℕ) (r l a y q c b : List ℕ) (w ratio : ℕ) (m x z : List ℕ) : Type 0 where
  pub few : k < 16
  pub shares : Addable r
  pub levels : Addable l
  pub ahead : Addable a
  pub payments : Addable y
  pub provisions : Addable q
  pub reserves : Reservable k c q b w ratio
  pub factors : Addable m
  pub completed : Addable x
  pub tails : Addable z

-- the list of a square s and of these
unfoldable pub printed_list : ℕ → List (List ℤ) → List ℕ → List ℕ → List ℕ → List ℕ → List ℕ → List ℕ → List ℕ → ℕ → ℕ → List ℕ → List ℕ → List ℕ → List ℤ
printed_list k s r l a y q c b w ratio m x z =
    joined
    (separation_sections k s (take (k + 1) r) (take (k + 1) l)
    ++ (completion_sections (take k a) (take (cells k - (k + 1)) y) (take (k + 1) q)
    ++ (reserve_sections (up_to (not_reported k b c q) (k + 1)) (up_to (reserve k ratio w b c q) (k + 1)) ratio
    ++ (ladder_sections (take k m) (take (cells k - (k + 1)) x) ++ tail_sections (take (k + 1) z)))))
