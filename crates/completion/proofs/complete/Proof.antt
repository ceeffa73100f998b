-- The loop's invariant: the rows before i pass question 11, their payments and their sums are stored, and `at` is where row i starts. Assumes nothing.
use mathlib.Core.Path.{◌≡◌, refl, sym}
use mathlib.Core.Bool.{Bool, true, false}
use mathlib.Core.List.{List}
use Prim.Native.Nat.{ℕ, ◌+◌, ◌-◌, ◌*◌, ◌≤◌, ◌<◌}
use native.Mathlib.Nat.{zero-add}
use native.Mathlib.Numerals.{add-one}
use native.Mathlib.Omega.{arith}
use borrow.Author.Tests.{le-leb, lt-leb}
use lib.Dec.{leb}
use lib.ListN.{length, get_or, set}
use lib.Seq.{sets}
use Rattle.rules.specs.Lists.{up_to, below, padded, joined, every}
use Rattle.rules.specs.Triangle.{future_start}
use Rattle.rules.specs.Completion.{payment_row, provision, provisions, ultimate, most_ultimate, ultimates_pass}
use Rattle.laws.proofs.Lists.{length_up_to, every_next, fails_at}
use Rattle.laws.proofs.Padded.{filled_at}
use Rattle.laws.proofs.Joined.{sets_append, sets_more, joined_more, future_length, future_room}
use Rattle.entries.proofs.Leading.{asked_all, asked_stop}
use Rattle.completion.specs.Asked.{most_payment, rows_asked}
use Rattle.completion.proofs.complete.Statement.{statement}
use Rattle.completion.proofs.complete.Tie as tie

-- question 11 of row i
abbrev passes : ℕ → List ℕ → List ℕ → List ℕ → List ℕ → List ℕ → ℕ → Bool
passes k n r l z c i = leb (ultimate c (padded 16 0 (provisions k n r l z)) i) most_ultimate

module _ (k : ℕ) (n r l : List ℕ) where
  -- the ultimate that is asked about
  ultimate_is : (z c : List ℕ) (i : ℕ) → i < k + 1 → ultimate c (padded 16 0 (provisions k n r l z)) i ≡ get_or c i 0 + provision k n r l z i
  unfolding ultimate provisions
  ultimate_is z c i h = rw (filled_at 16 0 (provision k n r l z) (k + 1) i 0 h)

  -- row i has i payments
  row-size : (i : ℕ) → length (payment_row k n r l i) ≡ i
  unfolding payment_row
  row-size i = length_up_to _ i

  -- the stores of row i
  row_stored : (all : List ℕ) (i : ℕ) → sets (sets all 0 (joined (up_to (payment_row k n r l) i))) (future_start i) (payment_row k n r l i)
      ≡ sets all 0 (joined (up_to (payment_row k n r l) (i + 1)))
  row_stored all i =
      let rows = joined (up_to (payment_row k n r l) i) in
      rw (add-one i, joined_more (payment_row k n r l) i)
      (sets_append rows (payment_row k n r l i) all 0 (future_start i) (omega (arith, future_length (payment_row k n r l) row-size i)))

abbrev invariant-loop : tie.invariant-loop-i
invariant-loop k exposures shares levels tails paid payments₀ sums₀ at₀ n i₀ payments sums at i =
    (i ≤ n)
    × ((at ≡ future_start i)
    × ((every (passes k exposures shares levels tails paid) (below i) ≡ true)
    × ((payments ≡ sets payments₀ 0 (joined (up_to (payment_row k exposures shares levels) i)))
    × (sums ≡ sets sums₀ 0 (up_to (provision k exposures shares levels tails) i)))))

abbrev decreases-loop : tie.decreases-loop-i
decreases-loop k exposures shares levels tails paid payments₀ sums₀ at₀ n i₀ payments sums at i = n - i

add-n : tie.Need-overflow_add-n invariant-loop decreases-loop
add-n c = omega arith

loop-holds : tie.Need-loop-i-init invariant-loop decreases-loop
unfolding future_start up_to joined every
loop-holds c = (omega arith, (refl, (refl, (refl, refl))))

-- the row's payments have room in the array
room : (c : tie.In-loop-i invariant-loop decreases-loop) → c.before.loop-i.at + c.before.loop-i.i ≤ 120
room c = rw c.before.loop-i.invariant.1.0 (future_room c.before.loop-i.i (omega arith))

put-row-requires : tie.Need-put_row-requires invariant-loop decreases-loop
put-row-requires c κs = (c.before.before.before.requires.0, (omega arith, room c.before))

mul-sum : tie.Need-offset_bounds-tails-i invariant-loop decreases-loop
mul-sum c = omega arith

element-copy-out-sum : tie.Need-bounds-tails-i invariant-loop decreases-loop
element-copy-out-sum c = omega arith

-- a provision is of at most fifteen payments and a tail payment
sum_most : (c : tie.After-sum-1 invariant-loop decreases-loop) → c.before.before.put_row.result + get_or c.before.before.before.before.before.before.args.tails.now c.before.before.before.before.before.loop-i.i 0 ≤ 16 * most_payment
sum_most c = omega (arith, c.before.before.before.before.before.before.requires.1.0 c.before.before.before.before.before.loop-i.i, c.before.before.put_row.ensures.1.0)

add-sum : tie.Need-overflow_add-sum invariant-loop decreases-loop
add-sum c = omega (arith, sum_most c)

mul-sums : tie.Need-offset_bounds-sums-i invariant-loop decreases-loop
mul-sums c = omega arith

element-write-sums : tie.Need-bounds-sums-i invariant-loop decreases-loop
element-write-sums c = omega arith

mul-if1 : tie.Need-offset_bounds-paid-i invariant-loop decreases-loop
mul-if1 c = omega arith

element-copy-out-if1 : tie.Need-bounds-paid-i invariant-loop decreases-loop
element-copy-out-if1 c = omega arith

add-if1 : tie.Need-overflow_add-paid invariant-loop decreases-loop
add-if1 c = omega (arith, c.before.before.before.before.before.before.before.before.before.requires.1.1 c.before.before.before.before.before.before.before.before.loop-i.i, sum_most c.before.before.before)

-- row i is stored, and so is its sum
row_done : (c : tie.After-t14-1 invariant-loop decreases-loop) →
    let s = c.before.before.before.before.before.before.before.before.before in
    let t = c.before.before.before.before.before.before.before.before.loop-i in
    let row = payment_row s.args.k s.args.exposures.now s.args.shares.now s.args.levels.now in
    let sum = provision s.args.k s.args.exposures.now s.args.shares.now s.args.levels.now s.args.tails.now in
    (c.before.before.before.before.before.put_row.new.all ≡ sets s.args.payments.now 0 (joined (up_to row (t.i + 1))))
    × (set t.sums t.i (c.before.before.before.before.before.put_row.result + get_or s.args.tails.now t.i 0) ≡ sets s.args.sums.now 0 (up_to sum (t.i + 1)))
unfolding provision
row_done c =
    let s = c.before.before.before.before.before.before.before.before.before in
    let t = c.before.before.before.before.before.before.before.before.loop-i in
    let k = s.args.k in
    let n = s.args.exposures.now in
    let r = s.args.shares.now in
    let l = s.args.levels.now in
    let z = s.args.tails.now in
    let made = c.before.before.before.before.before.put_row.ensures in (
      rw (made.1.1, t.invariant.1.0, t.invariant.1.1.1.0) (row_stored k n r l s.args.payments.now t.i),
      rw (made.0, t.invariant.1.1.1.1) (rw (zero-add t.i) at (sets_more (provision k n r l z) s.args.sums.now 0 t.i)),
    )

-- what question 11 asks of row i
asks-is : (c : tie.After-t14-1 invariant-loop decreases-loop) →
    let s = c.before.before.before.before.before.before.before.before.before in
    let t = c.before.before.before.before.before.before.before.before.loop-i in
    ultimate s.args.paid.now (padded 16 0 (provisions s.args.k s.args.exposures.now s.args.shares.now s.args.levels.now s.args.tails.now)) t.i
    ≡ get_or s.args.paid.now t.i 0 + (c.before.before.before.before.before.put_row.result + get_or s.args.tails.now t.i 0)
unfolding provision
asks-is c =
    let s = c.before.before.before.before.before.before.before.before.before in
    let t = c.before.before.before.before.before.before.before.before.loop-i in
    rw c.before.before.before.before.before.put_row.ensures.0 (ultimate_is s.args.k s.args.exposures.now s.args.shares.now s.args.levels.now s.args.tails.now s.args.paid.now t.i (omega arith))

returns : tie.Need-returns-then-paid-i-gt-MOST_ULTIMATE invariant-loop decreases-loop
unfolding ultimates_pass rows_asked
returns c =
    let s = c.before.before.before.before.before.before.before.before.before.before in
    let t = c.before.before.before.before.before.before.before.before.before.loop-i in
    let p = passes s.args.k s.args.exposures.now s.args.shares.now s.args.levels.now s.args.tails.now s.args.paid.now in
    let sum = get_or s.args.paid.now t.i 0 + (c.before.before.before.before.before.before.put_row.result + get_or s.args.tails.now t.i 0) in
    let failed : p t.i ≡ false = rw (asks-is c.before) (lt-leb sum most_ultimate (omega arith)) in
    let count = asked_stop p (s.args.k + 1) t.i (omega arith) t.invariant.1.1.0 failed in
    (sym (fails_at p (λ (j : ℕ). j) (s.args.k + 1) t.i (omega arith) failed), rw count (row_done c.before))

add_at : tie.Need-overflow_add-at invariant-loop decreases-loop
add_at c = omega (arith, room c.before.before.before.before.before.before.before.before)

add-i : tie.Need-overflow_step-i invariant-loop decreases-loop
add-i c = omega arith

loop-less : tie.Need-loop-i-smaller invariant-loop decreases-loop
loop-less c = omega arith

loop-again : tie.Need-loop-i-preserved invariant-loop decreases-loop
unfolding future_start
loop-again c =
    let s = c.before.before.before.before.before.before.before.before.before.before in
    let t = c.before.before.before.before.before.before.before.before.before.loop-i in
    let p = passes s.args.k s.args.exposures.now s.args.shares.now s.args.levels.now s.args.tails.now s.args.paid.now in
    let sum = get_or s.args.paid.now t.i 0 + (c.before.before.before.before.before.before.put_row.result + get_or s.args.tails.now t.i 0) in
    let passed : p t.i ≡ true = rw (asks-is c.before) (le-leb sum most_ultimate (omega arith)) in
    (omega arith, (rw (add-one t.i, t.invariant.1.0), (every_next p (λ (j : ℕ). j) t.i t.invariant.1.1.0 passed, row_done c.before)))

returns-2 : tie.Need-returns invariant-loop decreases-loop
unfolding ultimates_pass rows_asked
returns-2 c =
    let s = c.before.before in
    let t = c.before.loop-i in
    let e : t.i ≡ s.args.k + 1 = omega arith in
    let p = passes s.args.k s.args.exposures.now s.args.shares.now s.args.levels.now s.args.tails.now s.args.paid.now in
    let passed : every p (below (s.args.k + 1)) ≡ true = rw e at t.invariant.1.1.0 in
    (sym passed, rw (asked_all p (s.args.k + 1) passed, ← e) t.invariant.1.1.1)

pub complete_spec : {M : Type 1} → statement M
complete_spec =
    tie.close
    (tie.spec
    invariant-loop
    decreases-loop
    add-n
    loop-holds
    put-row-requires
    mul-sum
    element-copy-out-sum
    add-sum
    mul-sums
    element-write-sums
    mul-if1
    element-copy-out-if1
    add-if1
    returns
    add_at
    add-i
    loop-less
    loop-again
    returns-2)
