-- The loop's invariant: the entries of the first m steps are stored up to place `next`, and `sum` is the sum of their absolute gaps. Assumes nothing.
use borrow.Author.Rules.{rules}
use mathlib.Core.Path.{◌≡◌, refl, sym, ap, ◌∙◌}
use mathlib.Core.List.{◌++◌}
use Prim.Native.Nat.{◌+◌, ◌-◌, ◌*◌, ◌≤◌, ◌<◌}
use native.Mathlib.Numerals.{add-one}
use native.Mathlib.Omega.{arith}
use lib.ListN.{length, length-append}
use lib.Seq.{sets, length-sets}
use Rattle.rules.specs.Lists.{total, up_to, joined}
use Rattle.rules.specs.Hindsight.{setting_count}
use Rattle.laws.proofs.Totals.{total_more}
use Rattle.laws.proofs.Joined.{sets_append, joined_more, row_inside}
use Rattle.hindsight_gaps.specs.Fitted.{most_gap}
use Rattle.hindsight_gaps.proofs.Steps.{step_length}
use Rattle.hindsight_settings.proofs.Counts.{step_at, step_sum, steps_are, sum_is, steps_count, gaps_to, gaps_most, gaps_more}
use Rattle.hindsight_settings.proofs.put_steps.Statement.{statement}
use Rattle.hindsight_settings.proofs.put_steps.Tie as tie

abbrev invariant-loop : tie.invariant-loop-m
invariant-loop out₀ at k index exposures increments marks levels shares sum₀ next₀ n m₀ out sum next m =
    (m ≤ n)
    × (next ≡ at + length (joined (up_to (step_at k exposures increments index) m)))
    × (sum ≤ gaps_to k m * most_gap)
    × (sum ≡ total (up_to (step_sum k exposures increments index) m))
    × (out ≡ sets out₀ at (joined (up_to (step_at k exposures increments index) m)))
    × (length out ≡ length out₀)

abbrev decreases-loop : tie.decreases-loop-m
decreases-loop out₀ at k index exposures increments marks levels shares sum₀ next₀ n m₀ out sum next m = n - m

sub-n : tie.Need-overflow_sub-n invariant-loop decreases-loop
sub-n c = search rules

loop-holds : tie.Need-loop-m-init invariant-loop decreases-loop
unfolding up_to total joined
loop-holds c = (omega arith, omega arith, omega arith, refl, refl, refl)

sub-h : tie.Need-overflow_sub-h invariant-loop decreases-loop
sub-h c = search rules

mul-put-step : tie.Need-offset_bounds-marks-m invariant-loop decreases-loop
mul-put-step c = search rules

element-copy-out-put-step : tie.Need-bounds-marks-m invariant-loop decreases-loop
element-copy-out-put-step c = omega (arith, c.before.before.before.before.requires.0.0.few)

mul-put-step-2 : tie.Need-offset_bounds-levels-m invariant-loop decreases-loop
mul-put-step-2 c = search rules

element-copy-out-put-step-2 : tie.Need-bounds-levels-m invariant-loop decreases-loop
element-copy-out-put-step-2 c = omega (arith, c.before.before.before.before.before.before.requires.0.0.few)

mul-put-step-3 : tie.Need-offset_bounds-shares-m invariant-loop decreases-loop
mul-put-step-3 c = omega (arith, c.before.before.before.before.before.before.before.requires.0.0.few)

index-1-put-step : tie.Need-bounds-shares-m invariant-loop decreases-loop
index-1-put-step c = omega (arith, c.before.before.before.before.before.before.before.requires.0.0.few)

-- the entries of step m end before those of the setting do
room : (c : tie.In-loop-m invariant-loop decreases-loop) →
    let s = c.before.before in
    let l = c.before.loop-m in
    l.next + (1 + (s.args.k - 1 - l.m)) < s.args.at + setting_count s.args.k
room c =
    let s = c.before.before in
    let l = c.before.loop-m in
    let k = s.args.k in
    let n = s.args.exposures.now in
    let p = s.args.increments.now in
    omega (
      arith,
      l.invariant.1,
      steps_count k n p s.args.index s.requires.0.1.0,
      step_length k n p s.args.index (k - 1 - l.m),
      row_inside (step_at k n p s.args.index) (k - 1) l.m (omega arith),
    )

put-step-requires : tie.Need-put_step-sum-requires invariant-loop decreases-loop
put-step-requires c κs =
    let s = c.before.before.before.before.before.before.before in
    let l = c.before.before.before.before.before.before.loop-m in
    ((s.requires.0.0, (omega (arith, s.requires.0.1.0), omega (arith, room c.before.before.before.before.before, l.invariant.5, s.requires.0.1.1))), (s.requires.1.0, s.requires.1.1 l.m (omega arith)))

-- the sum with that of step m
more : (c : tie.After-out-1 invariant-loop decreases-loop) →
    let s = c.before.before.before.before.before.before.before.before.before in
    let l = c.before.before.before.before.before.before.before.before.loop-m in
    l.sum + c.before.put_step-sum.result ≤ gaps_to s.args.k (l.m + 1) * most_gap
more c =
    let s = c.before.before.before.before.before.before.before.before.before in
    let l = c.before.before.before.before.before.before.before.before.loop-m in
    rw (gaps_more s.args.k l.m) (omega (arith, l.invariant.2, c.before.put_step-sum.ensures.1.0))

add-sum : tie.Need-overflow_add-sum invariant-loop decreases-loop
add-sum c =
    let s = c.before.before.before.before.before.before.before.before.before in
    let l = c.before.before.before.before.before.before.before.before.loop-m in
    omega (arith, more c, gaps_most s.args.k (l.m + 1) s.requires.0.0.few (omega arith))

add-next : tie.Need-overflow_add-next invariant-loop decreases-loop
add-next c = search rules

add-next-2 : tie.Need-overflow_add-next-in-loop-m invariant-loop decreases-loop
add-next-2 c =
    let s = c.before.before.before.before.before.before.before.before.before in
    omega (arith, room c.before.before.before.before.before.before.before, s.requires.0.1.1)

add-m : tie.Need-overflow_step-m invariant-loop decreases-loop
add-m c = search rules

loop-less : tie.Need-loop-m-smaller invariant-loop decreases-loop
loop-less c = search rules

loop-again : tie.Need-loop-m-preserved invariant-loop decreases-loop
loop-again c =
    let s = c.before.before.before.before.before.before.before.before.before in
    let l = c.before.before.before.before.before.before.before.before.loop-m in
    let put = c.before.put_step-sum in
    let k = s.args.k in
    let n = s.args.exposures.now in
    let p = s.args.increments.now in
    let f = step_at k n p s.args.index in
    let more-entries : joined (up_to f (l.m + 1)) ≡ joined (up_to f l.m) ++ f l.m = rw (add-one l.m) (joined_more f l.m) in
    let stored : put.new.out ≡ sets s.args.out.now s.args.at (joined (up_to f (l.m + 1)))
    = put.ensures.1.1 ∙ rw (l.invariant.4, more-entries) (sets_append (joined (up_to f l.m)) (f l.m) s.args.out.now s.args.at l.next l.invariant.1) in (
      omega arith,
      rw more-entries (omega (arith, l.invariant.1, step_length k n p s.args.index (k - 1 - l.m), length-append (joined (up_to f l.m)) (f l.m))),
      more c,
      rw (add-one l.m) (omega (arith, put.ensures.0, l.invariant.3, total_more (step_sum k n p s.args.index) l.m)),
      stored,
      ap length stored ∙ simp length-sets,
    )

same_length : tie.Need-shape_of-out invariant-loop decreases-loop
same_length c = search rules

returns : tie.Need-returns invariant-loop decreases-loop
returns c =
    let s = c.before.before in
    let l = c.before.loop-m in
    let k = s.args.k in
    let n = s.args.exposures.now in
    let p = s.args.increments.now in
    let e : l.m ≡ k - 1 = omega arith in (
      rw e at l.invariant.3 ∙ sym (sum_is k n p s.args.index),
      (omega (arith, l.invariant.2, gaps_most k l.m s.requires.0.0.few (omega arith)), rw e at l.invariant.4 ∙ ap (sets s.args.out.now s.args.at) (sym (steps_are k n p s.args.index))),
    )

pub put_steps_spec : {M : Type 1} → statement M
put_steps_spec =
    tie.close
    (tie.spec
    invariant-loop
    decreases-loop
    sub-n
    loop-holds
    sub-h
    mul-put-step
    element-copy-out-put-step
    mul-put-step-2
    element-copy-out-put-step-2
    mul-put-step-3
    index-1-put-step
    put-step-requires
    add-sum
    add-next
    add-next-2
    add-m
    loop-less
    loop-again
    same_length
    returns)
