-- Where a step starts, in closed form, and that entries of a setting stand in the longest report. Assumes nothing.
use mathlib.Core.Path.{◌≡◌, ap}
use Prim.Native.Nat.{ℕ, zero, suc, ◌+◌, ◌-◌, ◌*◌, ◌/◌, ◌≤◌, ◌<◌}
use native.Mathlib.Nat.{mul-le-mul}
use native.Mathlib.Omega.{arith}
use Rattle.rules.specs.Lists.{total, up_to}
use Rattle.rules.specs.Hindsight.{most_settings, most_hindsight, setting_count}
use Rattle.laws.proofs.Totals.{total_none, total_more}
use Rattle.hindsight_places.specs.Places.{LastYear, Step, step_start}

-- k + (k − 1) + .., d of them, twice
falling : (k d : ℕ) → d ≤ k → 2 * total (up_to (λ m. k - m) d) ≡ d * (2 * (k - d) + d + 1)
falling k zero h = omega (arith, total_none (λ m. k - m))
falling k (suc d) h =
    let r = k - suc d in
    let e : k - d ≡ r + 1 = omega arith in
    let before = falling k d (omega arith) in
    let twice : d * (2 * (k - d) + d + 1) ≡ d * (2 * (r + 1) + d + 1) = ap (λ (z : ℕ). d * (2 * z + d + 1)) e in
    omega (arith, total_more (λ m. k - m) d, before, twice, e)

-- a step starts after half of so many
pub start_twice : (k h : ℕ) → h < k → 2 * step_start k h ≡ (k - 1 - h) * (k + h + 2)
unfolding step_start
start_twice k h l =
    let d = k - 1 - h in
    let e : k ≡ d + h + 1 = omega arith in
    let f : 2 * (k - d) + d + 1 ≡ k + h + 2 = omega arith in
    let half = falling k d (omega arith) in
    let g : d * (2 * (k - d) + d + 1) ≡ d * (k + h + 2) = ap (λ (z : ℕ). d * z) f in
    omega (arith, half, g)

pub start_half : (k h : ℕ) → h < k → (k - 1 - h) * (k + h + 2) / 2 ≡ step_start k h
start_half k h l = omega (arith, start_twice k h l)

-- twice the entries of a setting
count_twice : (k : ℕ) → 1 ≤ k → 2 * setting_count k ≡ k * (k + 1)
unfolding setting_count
count_twice k h =
    let m = k - 1 in
    let e : k ≡ m + 1 = omega arith in
    let all = falling k k (omega arith) in
    let whole : k * (2 * (k - k) + k + 1) ≡ k * (k + 1) = ap (λ (z : ℕ). k * z) (omega arith) in
    let split : k * k ≡ k * (m + 1) = ap (λ (z : ℕ). k * z) e in
    omega (arith, all, whole, split)

-- there is one at least, and there are at most 120
pub count_least : (k : ℕ) → LastYear k → 1 ≤ setting_count k
unfolding setting_count
count_least k known = omega arith

pub count_most : (k : ℕ) → k ≤ 15 → setting_count k ≤ 120
unfolding setting_count
count_most k h =
    let most : k * (k - 1) ≤ 15 * 14 = mul-le-mul {n₂ = 15} {m₂ = 14} h (omega arith) in
    omega arith

-- a step's entries stand before the setting's sum
pub step_inside : (k h e : ℕ) → Step k h → e ≤ h → step_start k h + e < setting_count k
step_inside k h e (known, (least, below)) l =
    let d = k - 1 - h in
    let sum : k ≡ d + h + 1 = omega arith in
    let start : d * (k + h + 2) ≡ d * (d + h + 1 + h + 2) = ap (λ (z : ℕ). d * (z + h + 2)) sum in
    let count : k * (k + 1) ≡ (d + h + 1) * (d + h + 1 + 1) = ap (λ (z : ℕ). z * (z + 1)) sum in
    omega (arith, start_twice k h below, count_twice k (omega arith), start, count)

-- entry e of setting a
pub entry_inside : (k a e : ℕ) → LastYear k → a < most_settings → e < setting_count k → a * setting_count k + e < most_hindsight
entry_inside k a e known few l =
    let whole : (a + 1) * setting_count k ≤ 8 * 120 = mul-le-mul {n₂ = 8} {m₂ = 120} (omega arith) (count_most k known.1) in
    omega arith

-- of step h
pub step_entry_inside : (k a h e : ℕ) → Step k h → a < most_settings → e ≤ h → a * setting_count k + (step_start k h + e) < most_hindsight
step_entry_inside k a h e s few l = entry_inside k a (step_start k h + e) s.0 few (step_inside k h e s l)

-- the setting's sum
pub sum_inside : (k a : ℕ) → LastYear k → a < most_settings → a * setting_count k + (setting_count k - 1) < most_hindsight
sum_inside k a known few = entry_inside k a (setting_count k - 1) known few (omega (arith, count_least k known))

-- the entry after n settings
pub last_inside : (k n : ℕ) → LastYear k → n ≤ most_settings → n * setting_count k + 0 < most_hindsight
last_inside k n known few =
    let whole : n * setting_count k ≤ 8 * 120 = mul-le-mul {n₂ = 8} {m₂ = 120} few (count_most k known.1) in
    omega arith
