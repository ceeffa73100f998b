-- The loop's invariant: the first t cumulatives past the diagonal are stored and within the limit, and `a` is the last of them. Assumes nothing.
use mathlib.Core.Path.{◌≡◌, refl, sym}
use mathlib.Core.Bool.{true}
use mathlib.Core.List.{List}
use Prim.Native.Nat.{ℕ, ◌+◌, ◌-◌, ◌*◌, ◌/◌}
use native.Mathlib.Nat.{mul-le-mul}
use native.Mathlib.Numerals.{add-one}
use native.Mathlib.Omega.{arith}
use borrow.Author.Tests.{le-leb}
use lib.ListN.{get_or}
use Rattle.rules.specs.Lists.{up_to, every}
use Rattle.rules.specs.Record.{million}
use Rattle.rules.specs.Triangle.{most_cumulative}
use Rattle.rules.specs.Ladder.{completed, completed_row}
use Rattle.laws.proofs.Joined.{sets_more}
use Rattle.laws.proofs.Lists.{every_next}
use Rattle.entries.proofs.Leading.{passing_all}
use Rattle.ladder.proofs.Stops.{within, past}
use Rattle.ladder.proofs.put_row.Goals as goal

-- what the code makes of the last cumulative is the next one
next : (k : ℕ) (c m : List ℕ) (i t a : ℕ) → a ≡ completed k c m i t → a * get_or m (k - i + t) 0 / million ≡ past k c m i t
unfolding completed
next k c m i t a is = rw is

pub loop-t-init : goal.loop-t-init
unfolding completed up_to every
loop-t-init c = (omega arith, (refl, (c.requires.1.1.1.0 c.args.i, (refl, refl))))

pub overflow_mul-a : goal.overflow_mul-a
overflow_mul-a c =
    let t = c.loop-t in
    let most = mul-le-mul t.invariant.1.1.0 (c.requires.1.1.1.1 (c.args.k - c.args.i + t.t)) in
    omega (arith, most, mul-le-mul t.invariant.1.1.0 (c.requires.1.1.1.1 (c.args.k - c.args.i + 0)))

pub loop-t-preserved : goal.loop-t-preserved
loop-t-preserved c =
    let s = c.args in
    let t = c.loop-t in
    let f = past s.k s.paid.now s.factors.now s.i in
    let e = next s.k s.paid.now s.factors.now s.i t.t t.a t.invariant.1.0 in
    let passed = le-leb (f t.t) most_cumulative (omega arith) in
    (omega arith, (rw (add-one t.t) e, (omega arith, (every_next within f t.t t.invariant.1.1.1.0 passed, rw (e, t.invariant.1.1.1.1) (sets_more f s.all.now s.at t.t)))))

pub returns : goal.returns
unfolding completed_row
returns c =
    let t = c.loop-t in
    let i = c.args.i in
    let f = past c.args.k c.args.paid.now c.args.factors.now i in
    let e : t.t ≡ i = omega arith in
    let passed : every within (up_to f i) ≡ true = rw e at t.invariant.1.1.1.0 in
    (sym passed, rw (passing_all within (up_to f i) passed) (rw e at t.invariant.1.1.1.1))
