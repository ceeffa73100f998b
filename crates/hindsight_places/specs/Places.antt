-- The report of a hindsight run by its settings and steps (request 12 of document 02): a setting has its steps, of last years k − 1 down to 1, each with its mark and
-- its gaps, and then its sum of absolute gaps; the place of the best setting ends the report. Assumes nothing.
use Rattle.std.specs.Prelude.{ℕ, ◌+◌, ◌-◌, ◌*◌, ◌≤◌, ◌<◌, Bool, not, List, eqb, ℤ, pos, nat_abs, get_or}
use Rattle.rules.specs.Lists.{total, up_to}
use Rattle.rules.specs.Record.{most_index}
use Rattle.rules.specs.Hindsight.{most_settings, setting_count}

-- what is known of a record's last year (it has four bits) and, by question 29, of it and of the number of settings, and of the first origin year
pub record Tried (k n first : ℕ) : Type 0 where
  pub k_least : 2 ≤ k
  pub k_most : k ≤ 15
  pub settings_least : 1 ≤ n
  pub settings_most : n ≤ most_settings
  pub first_most : first ≤ 65535

-- the last year of a record that has steps, a setting from 0, and a step
abbrev pub LastYear : ℕ → Type 0
LastYear k = (2 ≤ k) × (k ≤ 15)

abbrev pub Setting : ℕ → ℕ → Type 0
Setting k a = LastYear k × (a < most_settings)

abbrev pub Step : ℕ → ℕ → Type 0
Step k h = LastYear k × ((1 ≤ h) × (h < k))

-- entry e of setting a
unfoldable pub entry_at : List ℤ → ℕ → ℕ → ℕ → ℤ
entry_at list k a e = get_or list (a * setting_count k + e) (pos 0)

-- where step h starts among them: after the steps k − 1 down to h + 1, of k, k − 1, .., h + 2 entries
unfoldable pub step_start : ℕ → ℕ → ℕ
step_start k h = total (up_to (λ m. k - m) (k - 1 - h))

-- entry e of step h in setting a: the mark, and then the gaps of origin years 1 to h
unfoldable pub step_entry : List ℤ → ℕ → ℕ → ℕ → ℕ → ℤ
step_entry list k a h e = entry_at list k a (step_start k h + e)

-- the mark of step h as the first setting has it, 0 or the number of the question that says no of it; in a report all settings have the same
unfoldable pub mark_at : List ℤ → ℕ → ℕ → ℕ
mark_at list k h = nat_abs (step_entry list k 0 h 0)

-- whether the step is marked
unfoldable pub marked : List ℤ → ℕ → ℕ → Bool
marked list k h = not (eqb (mark_at list k h) 0)

-- the gap of origin year i, from 1 to h, with setting a: its development year is h + 1 − i, its payment year h + 1
unfoldable pub gap_at : List ℤ → ℕ → ℕ → ℕ → ℕ → ℤ
gap_at list k a h i = step_entry list k a h i

-- the sum of absolute gaps of setting a, the last of its entries
unfoldable pub sum_at : List ℤ → ℕ → ℕ → ℕ
sum_at list k a = nat_abs (entry_at list k a (setting_count k - 1))

-- the place, from 0, of the best of n settings, which stands after them
unfoldable pub best_at : List ℤ → ℕ → ℕ → ℕ
best_at list k n = nat_abs (entry_at list k n 0)

-- no entry's size is above this: more than the absolute gaps of a setting ever come to, of which there are at most 105
abbrev pub most_gap_sum : ℕ
most_gap_sum = 5300000000000000

abbrev pub GapsSmall : List ℤ → Type 0
GapsSmall list = (p : ℕ) → nat_abs (get_or list p (pos 0)) ≤ most_gap_sum

-- the first n settings are in their range
abbrev pub SettingsSmall : List ℕ → ℕ → Type 0
SettingsSmall settings n = (a : ℕ) → a < n → get_or settings a 0 ≤ most_index
