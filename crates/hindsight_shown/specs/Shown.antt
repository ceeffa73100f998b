-- What the page and the comma-separated values of a hindsight run show, which read its report by setting and step: those of the rule. Assumes nothing.
use Rattle.std.specs.Prelude.{ℕ, ◌≤◌, ◌<◌, ◌≡◌, List, map, ℤ, pos, length, get_or, take}
use Rattle.rules.specs.Hindsight.{step_entries, gap_sum, best_place, hindsight_list, hindsight_count}
use Rattle.hindsight_places.specs.Places.{LastYear, step_entry, sum_at, best_at}

-- a list that begins with the report of a run
pub record Begins (k : ℕ) (n : List ℕ) (p : List ℤ) (settings : List ℕ) (list : List ℤ) : Type 0 where
  pub known : LastYear k
  pub report : take (hindsight_count k (length settings)) list ≡ hindsight_list k n p settings

-- entry e of step h with setting a: the mark, and then the gaps
abbrev pub EntriesShown : ℕ → List ℕ → List ℤ → List ℕ → List ℤ → Type 0
EntriesShown k n p settings list =
    (a h e : ℕ) → a < length settings → (1 ≤ h) × (h < k) → e ≤ h → step_entry list k a h e ≡ get_or (step_entries k n p (get_or settings a 0) h) e (pos 0)

-- the sum of absolute gaps of setting a
abbrev pub SumsShown : ℕ → List ℕ → List ℤ → List ℕ → List ℤ → Type 0
SumsShown k n p settings list = (a : ℕ) → a < length settings → sum_at list k a ≡ gap_sum k n p (get_or settings a 0)

-- the place of the best setting
abbrev pub BestShown : ℕ → List ℕ → List ℤ → List ℕ → List ℤ → Type 0
BestShown k n p settings list = best_at list k (length settings) ≡ best_place (map (gap_sum k n p) settings)
