-- The entries of the settings behind and their sums are stored. Assumes nothing.
use mathlib.Core.Path.{◌≡◌, refl, sym, ap, ◌∙◌}
use mathlib.Core.List.{List, ◌++◌}
use Prim.Native.Nat.{ℕ, ◌+◌, ◌*◌, ◌≤◌, ◌<◌}
use native.Mathlib.Nat.{mul-le-mul, mul-le-mul_right}
use native.Mathlib.Numerals.{add-one}
use native.Mathlib.Omega.{arith}
use lib.IntN.{ℤ}
use lib.ListN.{length}
use lib.Seq.{sets}
use Rattle.rules.specs.Lists.{up_to, joined}
use Rattle.rules.specs.Hindsight.{gap_sum, setting_entries, setting_count}
use Rattle.laws.proofs.Joined.{first_more, sets_append, joined_more}
use Rattle.hindsight_settings.proofs.Counts.{entries, sum_at, each, settings_to}
use Rattle.hindsight_settings.proofs.put_settings.Goals as goal

pub setting_count-size-requires : goal.setting_count-size-requires
setting_count-size-requires c = (c.requires.0.1.0, c.requires.0.0.few)

pub loop-a-init : goal.loop-a-init
unfolding up_to joined
loop-a-init c = record { listed = refl; summed = refl }

-- the entries of setting a start behind those before it, and stand in the list
start : (k : ℕ) (n : List ℕ) (p : List ℤ) (settings : List ℕ) (a size m : ℕ) → 1 ≤ k → size ≡ setting_count k → a < length settings → length settings * setting_count k ≤ m
    → (a * size ≡ length (joined (up_to (entries k n p settings) a))) × (a * size + setting_count k ≤ m)
start k n p settings a size m some size-is h room =
    let few : a + 1 ≤ length settings = omega arith in
    rw size-is (
      sym (settings_to k n p settings some a),
      omega (arith, mul-le-mul_right (setting_count k) few, room),
    )

pub overflow_mul-a : goal.overflow_mul-a
overflow_mul-a c =
    let few : c.loop-a.a ≤ 8 = omega (arith, c.requires.0.1.1.0) in
    omega (arith, mul-le-mul few c.setting_count-size.ensures.1)

pub put_setting-requires : goal.put_setting-requires
put_setting-requires c =
    let a = c.args in
    let s = start a.k a.exposures.now a.increments.now a.settings.now c.loop-a.a c.setting_count-size.result (length a.out.now) c.requires.0.1.0 c.setting_count-size.ensures.0 (omega arith) c.requires.0.1.1.1 in
    ((c.requires.0.0, (c.requires.0.1.0, omega (arith, s.1, c.loop-a.auto.out))), (c.requires.1.0 c.loop-a.a, c.requires.1.1))

pub bounds-sums-a : goal.bounds-sums-a
bounds-sums-a c = omega (arith, c.requires.0.1.1.0)

pub loop-a-preserved : goal.loop-a-preserved
loop-a-preserved c =
    let l = c.loop-a in
    let put = c.put_setting in
    let k = c.args.k in
    let n = c.args.exposures.now in
    let p = c.args.increments.now in
    let settings = c.args.settings.now in
    let f = entries k n p settings in
    let s = start k n p settings l.a c.setting_count-size.result (length c.args.out.now) c.requires.0.1.0 c.setting_count-size.ensures.0 (omega arith) c.requires.0.1.1.1 in
    let more : joined (up_to f (l.a + 1)) ≡ joined (up_to f l.a) ++ f l.a = rw (add-one l.a) (joined_more f l.a) in
    record {
      listed = put.ensures.1 ∙ rw (l.invariant.listed, more) (sets_append (joined (up_to f l.a)) (f l.a) c.args.out.now 0 _ (omega (arith, s.0)));
      summed = rw (l.invariant.summed, put.ensures.0) (first_more (sum_at k n p settings) c.args.sums.now l.a);
    }

pub returns : goal.returns
returns c =
    let l = c.loop-a in
    let k = c.args.k in
    let n = c.args.exposures.now in
    let p = c.args.increments.now in
    let settings = c.args.settings.now in
    let e : l.a ≡ length settings = omega arith in (
      rw e at l.invariant.listed ∙ ap (λ (xs : List (List ℤ)). sets c.args.out.now 0 (joined xs)) (each (setting_entries k n p) settings),
      rw e at l.invariant.summed ∙ ap (λ (xs : List ℕ). sets c.args.sums.now 0 xs) (each (gap_sum k n p) settings),
    )
