-- The place of the best setting stands after the entries of all. Assumes nothing.
use borrow.Author.Rules.{rules}
use native.Mathlib.Nat.{mul-le-mul}
use native.Mathlib.Omega.{arith}
use mathlib.Core.Path.{◌≡◌, refl, sym, ap, ◌∙◌}
use mathlib.Core.List.{List, [], ◌∷◌, map}
use Prim.Native.Nat.{ℕ, ◌*◌, ◌≤◌, ◌<◌}
use lib.IntN.{ℤ, pos}
use lib.ListN.{length, take, replicate, length-map, length-replicate}
use lib.Seq.{sets, length-sets}
use Rattle.rules.specs.Lists.{up_to, joined}
use Rattle.rules.specs.Hindsight.{gap_sum, setting_entries, setting_count, hindsight_count, best_place, hindsight_list}
use Rattle.laws.proofs.Joined.{take_sets, sets_append}
use Rattle.hindsight_settings.proofs.Counts.{settings_length}
use Rattle.hindsight_list.proofs.fill_report.Statement.{statement}
use Rattle.hindsight_list.proofs.fill_report.Tie as tie

-- the last place of the report
room : (k c m size : ℕ) → size ≡ setting_count k → hindsight_count k c ≤ m → c * size < m
unfolding hindsight_count
room k c m size e h = rw e (omega arith)

fill-settings-requires : tie.Need-fill_settings-requires
fill-settings-requires c κs = search rules

-- the sums of the settings
abbrev sums : tie.Start → List ℕ
sums s = map (gap_sum s.args.k s.args.exposures.now s.args.increments.now) s.args.settings.now

sums_length : (s : tie.Start) → length (sums s) ≡ length s.args.settings.now
sums_length s = length-map s.args.settings.now (gap_sum s.args.k s.args.exposures.now s.args.increments.now)

held : (c : tie.After-fill_settings) → length c.fill_settings.new.sums ≡ 8
held c = ap length c.fill_settings.ensures.1.0 ∙ simp length-sets

taken : (c : tie.After-fill_settings) →
    let s = c.before.before.before.before.before.before in
    take (length s.args.settings.now) c.fill_settings.new.sums ≡ sums s
taken c =
    let s = c.before.before.before.before.before.before in
    rw c.fill_settings.ensures.1.0 (take_sets (replicate 8 0) (sums s) (length s.args.settings.now) (sums_length s) s.requires.few)

array-share-prefix-sums : tie.Need-slice_bounds-sums-end
array-share-prefix-sums c = omega (arith, held c.before, c.before.before.before.before.before.before.before.requires.few)

slice-aggregate-best-of : tie.Need-slice_bounds-best_of-end
slice-aggregate-best-of c = sym (ap length (taken c.before.before) ∙ sums_length c.before.before.before.before.before.before.before.before)

best-of-requires : tie.Need-best_of-best-requires
best-of-requires c κs =
    let s = c.before.before.before.before.before.before.before.before in
    omega (arith, ap length (taken c.before.before), sums_length s, s.requires.tried)

setting-count-requires : tie.Need-setting_count-requires
setting-count-requires c κs =
    let s = c.before.before.before.before.before.before.before.before.before.before in
    (s.requires.some, s.requires.given.few)

mul-put-natural : tie.Need-overflow_mul-n
mul-put-natural c =
    let s = c.before.before.before.before.before.before.before.before.before.before.before in
    omega (arith, mul-le-mul s.requires.few c.setting_count.ensures.1)

put-natural-requires : tie.Need-put_natural-requires
put-natural-requires c κs =
    let s = c.before.before.before.before.before.before.before.before.before.before.before in
    let best = c.before.before.best_of-best in
    let filled = c.before.before.before.before.before in
    let long : length filled.fill_settings.new.report ≡ length s.args.report.now = ap length filled.fill_settings.ensures.0 ∙ simp length-sets in
    let place = room s.args.k (length s.args.settings.now) (length s.args.report.now) c.setting_count.result c.setting_count.ensures.0 s.requires.room in
    (omega (arith, place, long), omega (arith, best.ensures.1, ap length (taken filled), sums_length s, s.requires.few))

same_length : tie.Need-shape_of-report
same_length c = search rules

returns : tie.Need-returns
unfolding hindsight_list
returns c =
    let size = c.before.before.setting_count in
    let best = c.before.before.before.before.best_of-best in
    let filled = c.before.before.before.before.before.before.before in
    let s = filled.before.before.before.before.before.before in
    let k = s.args.k in
    let n = s.args.exposures.now in
    let p = s.args.increments.now in
    let settings = s.args.settings.now in
    let is : best.result ≡ best_place (sums s) = rw (taken filled) at best.ensures.0 in (
      rw (c.before.put_natural.ensures.1, filled.fill_settings.ensures.0, is)
          (sets_append (joined (map (setting_entries k n p) settings)) (pos (best_place (sums s)) ∷ []) s.args.report.now 0 (length settings * size.result) (omega (arith, settings_length k n p settings s.requires.some, ap (λ (x : ℕ). length settings * x) size.ensures.0))),
      filled.fill_settings.ensures.1.1,
    )

pub fill_report_spec : {M : Type 1} → statement M
fill_report_spec =
    tie.close
    (tie.spec
    fill-settings-requires
    array-share-prefix-sums
    slice-aggregate-best-of
    best-of-requires
    setting-count-requires
    mul-put-natural
    put-natural-requires
    same_length
    returns)
