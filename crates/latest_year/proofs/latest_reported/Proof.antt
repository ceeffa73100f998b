-- The loop's invariant: `sum` is the sum of b_j × X_{k−j} over the years before j. Assumes nothing.
use Prim.Native.Nat.{ℕ, suc, ◌+◌, ◌-◌, ◌*◌, ◌/◌, ◌≤◌}
use native.Mathlib.Numerals.{add-one}
use native.Mathlib.Omega.{arith}
use mathlib.Core.Path.{◌≡◌, refl, ap}
use lib.ListN.{get_or}
use Rattle.rules.specs.Lists.{total, up_to}
use Rattle.rules.specs.Record.{million}
use Rattle.rules.specs.Completion.{most_ultimate, ultimate}
use Rattle.rules.specs.Growth.{latest_reported}
use Rattle.laws.proofs.Totals.{total_more}
use Rattle.latest_year.proofs.Reported.{term, sum_most}
use Rattle.latest_year.proofs.latest_reported.Statement.{statement}
use Rattle.latest_year.proofs.latest_reported.Tie as tie

abbrev invariant-loop : tie.invariant-loop-j
invariant-loop k reporting paid provisions n sum₀ j₀ sum j = (j ≤ n) × (sum ≡ total (up_to (λ j. get_or reporting j 0 * ultimate paid provisions (k - j)) j))

abbrev decreases-loop : tie.decreases-loop-j
decreases-loop k reporting paid provisions n sum₀ j₀ sum j = n - j

-- the sum over the first n years is at most 10^18
most : (s : tie.Start invariant-loop decreases-loop) (n : ℕ) → n ≤ s.args.k + 1
    → total (up_to (λ j. get_or s.args.reporting.now j 0 * ultimate s.args.paid.now s.args.provisions.now (s.args.k - j)) n) ≤ million * most_ultimate
most s n h = sum_most s.args.k s.args.reporting.now s.args.paid.now s.args.provisions.now s.requires.1.0 s.requires.1.1 n h

add-n : tie.Need-overflow_add-n invariant-loop decreases-loop
add-n c = omega arith

loop-holds : tie.Need-loop-j-init invariant-loop decreases-loop
unfolding up_to total
loop-holds c = (omega arith, refl)

sub-i : tie.Need-overflow_sub-i invariant-loop decreases-loop
sub-i c = omega arith

mul-sum : tie.Need-offset_bounds-reporting-j invariant-loop decreases-loop
mul-sum c = omega arith

element-copy-out-sum : tie.Need-bounds-reporting-j invariant-loop decreases-loop
element-copy-out-sum c = omega arith

mul-sum-2 : tie.Need-offset_bounds-paid-i invariant-loop decreases-loop
mul-sum-2 c = omega arith

element-copy-out-sum-2 : tie.Need-bounds-paid-i invariant-loop decreases-loop
element-copy-out-sum-2 c = omega arith

mul-sum-3 : tie.Need-offset_bounds-provisions-i invariant-loop decreases-loop
mul-sum-3 c = omega arith

element-copy-out-sum-3 : tie.Need-bounds-provisions-i invariant-loop decreases-loop
element-copy-out-sum-3 c = omega arith

add-sum : tie.Need-overflow_add-sum invariant-loop decreases-loop
unfolding ultimate
add-sum c =
    let s = c.before.before.before.before.before.before.before.before in
    omega (arith, s.requires.1.0 (s.args.k - c.before.before.before.before.before.before.before.loop-j.j) (omega arith))

-- the sum with the term of year j
next : (c : tie.After-sum-in-loop-j-2-1 invariant-loop decreases-loop) →
    let s = c.before.before.before.before.before.before.before.before in
    let l = c.before.before.before.before.before.before.before.loop-j in
    let i = s.args.k - l.j in
    let more = l.sum + get_or s.args.reporting.now l.j 0 * (get_or s.args.paid.now i 0 + get_or s.args.provisions.now i 0) in
    (more ≡ total (up_to (λ j. get_or s.args.reporting.now j 0 * ultimate s.args.paid.now s.args.provisions.now (s.args.k - j)) (l.j + 1)))
    × (more ≤ million * most_ultimate)
unfolding ultimate
next c =
    let s = c.before.before.before.before.before.before.before.before in
    let l = c.before.before.before.before.before.before.before.loop-j in
    let whole = most s (suc l.j) (omega arith) in
    let more = total_more (term s.args.k s.args.reporting.now s.args.paid.now s.args.provisions.now s.requires.1.0) l.j in
    rw (add-one l.j) (omega arith, omega arith)

mul-sum-4 : tie.Need-overflow_mul-sum invariant-loop decreases-loop
mul-sum-4 c = omega (arith, (next c).1)

add-sum-2 : tie.Need-overflow_add-sum-in-loop-j invariant-loop decreases-loop
add-sum-2 c = omega (arith, (next c).1)

add-j : tie.Need-overflow_step-j invariant-loop decreases-loop
add-j c = omega arith

loop-less : tie.Need-loop-j-smaller invariant-loop decreases-loop
loop-less c = omega arith

loop-again : tie.Need-loop-j-preserved invariant-loop decreases-loop
loop-again c = (omega arith, (next c).0)

returns : tie.Need-returns invariant-loop decreases-loop
unfolding latest_reported
returns c =
    let s = c.before.before in
    let l = c.before.loop-j in
    let e : l.j ≡ s.args.k + 1 = omega arith in
    (ap (λ (n : ℕ). n / million) (rw e at l.invariant.1), omega (arith, l.invariant.1, most s l.j (omega arith)))

pub latest_reported_spec : {M : Type 1} → statement M
latest_reported_spec =
    tie.close
    (tie.spec
    invariant-loop
    decreases-loop
    add-n
    loop-holds
    sub-i
    mul-sum
    element-copy-out-sum
    mul-sum-2
    element-copy-out-sum-2
    mul-sum-3
    element-copy-out-sum-3
    add-sum
    mul-sum-4
    add-sum-2
    add-j
    loop-less
    loop-again
    returns)
