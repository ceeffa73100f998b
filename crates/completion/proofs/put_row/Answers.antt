-- The loop's invariant: the first m payments are stored, and `sum` is their sum, at most 5 × 10^13 each. Assumes nothing.
use mathlib.Core.Path.{◌≡◌, refl, ◌∙◌, sym}
use mathlib.Core.List.{List}
use Prim.Native.Nat.{ℕ, ◌+◌, ◌-◌, ◌≤◌}
use native.Mathlib.Numerals.{add-one}
use native.Mathlib.Omega.{arith}
use lib.ListN.{get_or}
use Rattle.rules.specs.Lists.{total, up_to}
use Rattle.rules.specs.Completion.{payment_of, payment, payment_row}
use Rattle.laws.proofs.Totals.{total_more}
use Rattle.laws.proofs.Joined.{sets_more}
use Rattle.completion.proofs.put_row.Goals as goal

-- payment m of row i
abbrev cell : ℕ → List ℕ → List ℕ → List ℕ → ℕ → ℕ → ℕ
cell k n r l i m = payment k n r l i (k + 1 - i + m)

-- its level is the one at place m
cell_is : (k : ℕ) (n r l : List ℕ) (i m : ℕ) → i ≤ k → cell k n r l i m ≡ payment_of (get_or n i 0) (get_or r (k + 1 - i + m) 0) (get_or l m 0)
unfolding payment
cell_is k n r l i m h =
    let e : i + (k + 1 - i + m) - k - 1 ≡ m = omega arith in
    rw e

pub loop-m-init : goal.loop-m-init
unfolding up_to total
loop-m-init c = (omega arith, (omega arith, (refl, refl)))

pub payment-y-requires : goal.payment-y-requires
payment-y-requires c =
    let s = c in
    let m = c.loop-m.m in
    let fine = s.requires.0 in
    (fine.exposures s.args.i, (fine.shares (s.args.k + 1 - s.args.i + m), fine.levels m))

pub overflow_add-sum : goal.overflow_add-sum
overflow_add-sum c = omega (arith, c.payment-y.ensures.1)

pub loop-m-preserved : goal.loop-m-preserved
loop-m-preserved c =
    let s = c in
    let t = c.loop-m in
    let k = s.args.k in
    let n = s.args.exposures.now in
    let r = s.args.shares.now in
    let l = s.args.levels.now in
    let f = cell k n r l s.args.i in
    let is : c.payment-y.result ≡ f t.m = c.payment-y.ensures.0 ∙ sym (cell_is k n r l s.args.i t.m (omega arith)) in (
      omega arith,
      (
        omega (arith, c.payment-y.ensures.1),
        (rw (add-one t.m) (omega (arith, total_more f t.m)), rw (is, t.invariant.1.1.1) (sets_more f s.args.all.now s.args.at t.m)),
      ),
    )

pub returns : goal.returns
unfolding payment_row
returns c =
    let e : c.loop-m.m ≡ c.args.i = omega arith in
    (rw e at c.loop-m.invariant.1.1.0, (omega arith, rw e at c.loop-m.invariant.1.1.1))
