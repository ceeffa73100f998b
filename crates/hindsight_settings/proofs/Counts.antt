-- How many entries the steps of a setting have, and how many gaps. Assumes nothing.
use Prim.Native.Nat.{ℕ, zero, suc, ◌+◌, ◌-◌, ◌*◌, ◌/◌, ◌≤◌, ◌<◌}
use native.Mathlib.Nat.{mul-le-mul}
use native.Mathlib.Numerals.{add-one}
use native.Mathlib.Omega.{arith}
use mathlib.Core.Path.{◌≡◌, refl, sym, ap, ◌∙◌}
use mathlib.Core.List.{List, ◌∷◌, [], map}
use lib.IntN.{ℤ, pos, nat_abs}
use lib.ListN.{length, get_or, length-append}
use Rattle.rules.specs.Lists.{total, up_to, joined}
use Rattle.rules.specs.Hindsight.{most_settings, most_hindsight, step_gaps, step_entries, step_years, gap_sum, setting_entries, best_place, hindsight_list, setting_count, hindsight_count}
use Rattle.laws.proofs.Lists.{map_up_to, up_to_self}
use Rattle.laws.proofs.Totals.{total_more, total_part}
use Rattle.laws.proofs.Joined.{joined_more}
use Rattle.history.proofs.Windows.{rows_length}
use Rattle.hindsight_gaps.proofs.Steps.{step_length}

-- the entries and the sum of setting a
abbrev pub entries : ℕ → List ℕ → List ℤ → List ℕ → ℕ → List ℤ
entries k n p settings a = setting_entries k n p (get_or settings a 0)

abbrev pub sum_at : ℕ → List ℕ → List ℤ → List ℕ → ℕ → ℕ
sum_at k n p settings a = gap_sum k n p (get_or settings a 0)

module _ (k : ℕ) (n : List ℕ) (p : List ℤ) (e : ℕ) where
  -- the entries and the sum of absolute gaps of the step at place m
  abbrev pub step_at : ℕ → List ℤ
  step_at m = step_entries k n p e (k - 1 - m)

  abbrev pub step_sum : ℕ → ℕ
  step_sum m = total (map nat_abs (step_gaps k n p (k - 1 - m) e))

  pub steps_are : joined (map (step_entries k n p e) (step_years k)) ≡ joined (up_to step_at (k - 1))
  steps_are = ap joined (map_up_to (step_entries k n p e) (λ m. k - 1 - m) (k - 1))

  pub sum_is : gap_sum k n p e ≡ total (up_to step_sum (k - 1))
  unfolding gap_sum
  sum_is = ap total (map_up_to (λ h. total (map nat_abs (step_gaps k n p h e))) (λ m. k - 1 - m) (k - 1))

  -- the first c steps have c marks and k − 1, k − 2, .. gaps
  steps_twice : (c : ℕ) → c ≤ k - 1 → 2 * length (joined (up_to step_at c)) + c * c ≡ c * (2 * k + 1)
  unfolding up_to joined
  steps_twice zero h = omega arith
  steps_twice (suc c) h =
      let more = joined_more step_at c in
      let each : length (step_at c) ≡ 1 + (k - 1 - c) = step_length k n p e (k - 1 - c) in
      rw more (omega (arith, length-append (joined (up_to step_at c)) (step_at c), each, steps_twice c (omega arith)))

  pub steps_count : 1 ≤ k → length (joined (up_to step_at (k - 1))) + 1 ≡ setting_count k
  unfolding setting_count
  steps_count h = whole k (length (joined (up_to step_at (k - 1)))) h (steps_twice (k - 1) (omega arith))
    where
      whole : (j l : ℕ) → 1 ≤ j → 2 * l + (j - 1) * (j - 1) ≡ (j - 1) * (2 * j + 1) → l + 1 ≡ j + j * (j - 1) / 2
      whole zero l a b = absurd (omega arith)
      whole (suc j) l a b =
          let same : suc j - 1 ≡ j = omega arith in
          let b' : 2 * l + j * j ≡ j * (2 * suc j + 1) = rw same at b in
          rw same (omega (arith, b'))

  -- its entries are as many as a setting has
  pub setting_length : 1 ≤ k → length (setting_entries k n p e) ≡ setting_count k
  unfolding setting_entries
  setting_length h =
      omega (arith, steps_count h, ap length steps_are, length-append (joined (map (step_entries k n p e) (step_years k))) (pos (gap_sum k n p e) ∷ []))

-- of every setting
pub each : {A : Type 0} (f : ℕ → A) (settings : List ℕ) → up_to (λ a. f (get_or settings a 0)) (length settings) ≡ map f settings
each f settings = sym (map_up_to f (λ a. get_or settings a 0) (length settings)) ∙ ap (map f) (up_to_self settings (length settings) 0 refl)

-- the entries of the first c settings, and of all
pub settings_to : (k : ℕ) (n : List ℕ) (p : List ℤ) (settings : List ℕ) → 1 ≤ k → (c : ℕ) → length (joined (up_to (λ a. setting_entries k n p (get_or settings a 0)) c)) ≡ c * setting_count k
settings_to k n p settings h c =
    rows_length (λ a. setting_entries k n p (get_or settings a 0)) (setting_count k) (λ a. setting_length k n p (get_or settings a 0) h) c

pub settings_length : (k : ℕ) (n : List ℕ) (p : List ℤ) (settings : List ℕ) → 1 ≤ k → length (joined (map (setting_entries k n p) settings)) ≡ length settings * setting_count k
settings_length k n p settings h = rw (← each (setting_entries k n p) settings) (settings_to k n p settings h (length settings))

-- how many gaps the first c steps have, and all of them at most
pub gaps_to : ℕ → ℕ → ℕ
gaps_to k c = total (up_to (λ m. k - 1 - m) c)

gaps_twice : (k c : ℕ) → c ≤ k - 1 → 2 * gaps_to k c + c * c + c ≡ 2 * (c * k)
unfolding gaps_to total up_to
gaps_twice k zero h = omega arith
gaps_twice k (suc c) h = omega (arith, total_more (λ m. k - 1 - m) c, gaps_twice k c (omega arith))

gaps_all : (k : ℕ) → k < 16 → gaps_to k (k - 1) ≤ 105
gaps_all zero h = omega (arith, gaps_twice 0 0 (omega arith))
gaps_all (suc k) h =
    let same : suc k - 1 ≡ k = omega arith in
    let twice = gaps_twice (suc k) k (omega arith) in
    let few : k ≤ 14 = omega arith in
    let next : suc k ≤ 15 = omega arith in
    let most : k * suc k ≤ 14 * 15 = mul-le-mul few next in
    rw same (omega (arith, twice, most))

pub gaps_most : (k c : ℕ) → k < 16 → c ≤ k - 1 → gaps_to k c ≤ 105
unfolding gaps_to
gaps_most k c h l = omega (arith, total_part (λ m. k - 1 - m) c (k - 1) l, gaps_all k h)

pub gaps_more : (k c : ℕ) → gaps_to k (c + 1) ≡ gaps_to k c + (k - 1 - c)
unfolding gaps_to
gaps_more k c = rw (add-one c) (total_more (λ m. k - 1 - m) c)

-- the report has as many entries as question 3 asks for, and at most 961
pub report_length : (k : ℕ) (n : List ℕ) (p : List ℤ) (settings : List ℕ) → 1 ≤ k → length (hindsight_list k n p settings) ≡ hindsight_count k (length settings)
unfolding hindsight_list hindsight_count
report_length k n p settings h =
    omega (arith, settings_length k n p settings h, length-append (joined (map (setting_entries k n p) settings)) (pos (best_place (map (gap_sum k n p) settings)) ∷ []))

pub report_most : (k c : ℕ) → k ≤ 15 → c ≤ most_settings → hindsight_count k c ≤ most_hindsight
unfolding hindsight_count setting_count
report_most k c few tried =
    let less : k - 1 ≤ 14 = omega arith in
    let size : k + k * (k - 1) / 2 ≤ 120 = omega (arith, mul-le-mul few less) in
    omega (arith, mul-le-mul tried size)
