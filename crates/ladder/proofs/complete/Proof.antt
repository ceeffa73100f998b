-- The loop's invariant: the rows before i pass question 14 and are stored, and `at` is where row i starts. Assumes nothing.
use mathlib.Core.Path.{◌≡◌, refl, sym, ◌∙◌}
use mathlib.Core.Bool.{Bool, true}
use mathlib.Core.List.{List, ◌++◌}
use Prim.Native.Nat.{ℕ, ◌+◌, ◌-◌, ◌≤◌}
use native.Mathlib.Numerals.{add-one}
use native.Mathlib.Omega.{arith}
use lib.Dec.{leb}
use lib.ListN.{length}
use lib.Seq.{sets}
use Rattle.rules.specs.Lists.{up_to, joined, every}
use Rattle.rules.specs.Triangle.{future_start, most_cumulative}
use Rattle.rules.specs.Ladder.{completed_row, completed_all, completed_pass}
use Rattle.laws.proofs.Lists.{length_up_to, every_append}
use Rattle.laws.proofs.Joined.{sets_append, joined_more, future_length, future_room}
use Rattle.entries.specs.Leading.{passing}
use Rattle.entries.proofs.Leading.{passing_all, stop_row}
use Rattle.ladder.proofs.complete.Statement.{statement}
use Rattle.ladder.proofs.complete.Tie as tie

-- the limit
abbrev within : ℕ → Bool
within x = leb x most_cumulative

module _ (k : ℕ) (c m : List ℕ) where
  -- row i has i completed cumulatives
  row-size : (i : ℕ) → length (completed_row k c m i) ≡ i
  unfolding completed_row
  row-size i = length_up_to _ i

  -- stores from where row i starts on
  row_stored : (all xs : List ℕ) (i : ℕ) → sets (sets all 0 (joined (up_to (completed_row k c m) i))) (future_start i) xs
      ≡ sets all 0 (joined (up_to (completed_row k c m) i) ++ xs)
  row_stored all xs i = sets_append (joined (up_to (completed_row k c m) i)) xs all 0 (future_start i) (omega (arith, future_length (completed_row k c m) row-size i))

abbrev invariant-loop : tie.invariant-loop-i
invariant-loop k paid factors all₀ at₀ n i₀ all at i =
    (i ≤ n)
    × ((at ≡ future_start i)
    × ((every within (joined (up_to (completed_row k paid factors) i)) ≡ true) × (all ≡ sets all₀ 0 (joined (up_to (completed_row k paid factors) i)))))

abbrev decreases-loop : tie.decreases-loop-i
decreases-loop k paid factors all₀ at₀ n i₀ all at i = n - i

add-n : tie.Need-overflow_add-n invariant-loop decreases-loop
add-n c = omega arith

loop-holds : tie.Need-loop-i-init invariant-loop decreases-loop
unfolding future_start up_to joined every
loop-holds c = (omega arith, (refl, (refl, refl)))

-- the row's completed cumulatives have room in the array
room : (c : tie.In-loop-i invariant-loop decreases-loop) → c.before.loop-i.at + c.before.loop-i.i ≤ 120
room c = rw c.before.loop-i.invariant.1.0 (future_room c.before.loop-i.i (omega arith))

put-row-requires : tie.Need-put_row-requires invariant-loop decreases-loop
put-row-requires c κs = let s = c.before.before.before in (s.requires.0, (omega arith, (room c.before, s.requires.1)))

-- after row i its cumulatives that are within the limit are stored too
row_done : (c : tie.After-put_row invariant-loop decreases-loop) →
    let s = c.before.before.before.before in
    let t = c.before.before.before.loop-i in
    let row = completed_row s.args.k s.args.paid.now s.args.factors.now in
    c.put_row.new.all ≡ sets s.args.all.now 0 (joined (up_to row t.i) ++ passing within (row t.i))
row_done c =
    let s = c.before.before.before.before in
    let t = c.before.before.before.loop-i in
    rw (c.put_row.ensures.1, t.invariant.1.0, t.invariant.1.1.1) (row_stored s.args.k s.args.paid.now s.args.factors.now s.args.all.now _ t.i)

returns : tie.Need-returns-then-not-put_row invariant-loop decreases-loop
unfolding completed_pass completed_all
returns c =
    let s = c.before.before.before.before.before in
    let t = c.before.before.before.before.loop-i in
    let row = completed_row s.args.k s.args.paid.now s.args.factors.now in
    let failed = sym c.before.put_row.ensures.0 ∙ c.if-not-put_row.true in
    let both = stop_row within row (s.args.k + 1) t.i (omega arith) t.invariant.1.1.0 failed in
    (sym both.0, rw both.1 (row_done c.before))

add_at : tie.Need-overflow_add-at invariant-loop decreases-loop
add_at c = omega (arith, room c.before.before.before)

add-i : tie.Need-overflow_step-i invariant-loop decreases-loop
add-i c = omega arith

loop-less : tie.Need-loop-i-smaller invariant-loop decreases-loop
loop-less c = omega arith

loop-again : tie.Need-loop-i-preserved invariant-loop decreases-loop
unfolding future_start
loop-again c =
    let s = c.before.before.before.before.before in
    let t = c.before.before.before.before.loop-i in
    let row = completed_row s.args.k s.args.paid.now s.args.factors.now in
    let passed : every within (row t.i) ≡ true = sym c.before.put_row.ensures.0 ∙ c.if-not-put_row.false in
    let both : every within (joined (up_to row t.i) ++ row t.i) ≡ true = rw (every_append within (joined (up_to row t.i)) (row t.i), t.invariant.1.1.0, passed) in
    let stored = rw (passing_all within (row t.i) passed) at (row_done c.before) in
    (omega arith, (rw (add-one t.i, t.invariant.1.0), rw (add-one t.i, joined_more row t.i) (both, stored)))

returns-2 : tie.Need-returns invariant-loop decreases-loop
unfolding completed_pass completed_all
returns-2 c =
    let s = c.before.before in
    let t = c.before.loop-i in
    let e : t.i ≡ s.args.k + 1 = omega arith in
    let all = joined (up_to (completed_row s.args.k s.args.paid.now s.args.factors.now) (s.args.k + 1)) in
    let passed : every within all ≡ true = rw e at t.invariant.1.1.0 in
    (sym passed, rw (passing_all within all passed) (rw e at t.invariant.1.1.1))

pub complete_spec : {M : Type 1} → statement M
complete_spec =
    tie.close
    (tie.spec
    invariant-loop
    decreases-loop
    add-n
    loop-holds
    put-row-requires
    returns
    add_at
    add-i
    loop-less
    loop-again
    returns-2)
