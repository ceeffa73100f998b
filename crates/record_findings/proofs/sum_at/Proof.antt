-- The loop's invariant: the sum of the first i fields, each below 2 ^ 20. Assumes nothing.
use mathlib.Core.Path.{◌≡◌}
use mathlib.Core.List.{List}
use Prim.Native.Nat.{ℕ, ◌+◌, ◌-◌, ◌*◌, ◌≤◌, ◌^◌}
use native.Mathlib.Numerals.{add-one}
use native.Mathlib.Omega.{arith}
use Rattle.rules.specs.Lists.{total}
use Rattle.laws.proofs.Totals.{total_none, total_more, total_each}
use Rattle.packing.specs.Field.{field_at, row_at}
use Rattle.packing.proofs.Pack.{field_lt}
use borrow.Author.Rules.{rules}
use Rattle.record_findings.proofs.sum_at.Statement.{statement}
use Rattle.record_findings.proofs.sum_at.Tie as tie

abbrev invariant-loop : tie.invariant-loop-i
invariant-loop s at n sum₀ i₀ sum i = (i ≤ n) × (sum ≡ total (row_at s at 20 i))

abbrev decreases-loop : tie.decreases-loop-i
decreases-loop s at n sum₀ i₀ sum i = n - i

module _ (s : List ℕ) (at : ℕ) where
  none : 0 ≡ total (row_at s at 20 0)
  unfolding row_at
  none = omega (arith, total_none (λ i. field_at s (at + 20 * i) 20))

  more : (i : ℕ) → total (row_at s at 20 (i + 1)) ≡ total (row_at s at 20 i) + field_at s (at + 20 * i) 20
  unfolding row_at
  more i = rw (add-one i) (total_more (λ i. field_at s (at + 20 * i) 20) i)

  most : (i : ℕ) → total (row_at s at 20 i) ≤ i * 2 ^ 20
  unfolding row_at
  most i = total_each (λ i. field_at s (at + 20 * i) 20) (2 ^ 20) i (λ j l. omega (arith, field_lt s (at + 20 * j) 20))

loop-holds : tie.Need-loop-i-init invariant-loop decreases-loop
loop-holds c = (omega arith, none c.before.args.s.now c.before.args.at)

add-sum : tie.Need-overflow_add-sum invariant-loop decreases-loop
add-sum c =
    let a = c.before.before.before.before.args in
    let l = c.before.before.loop-i in
    omega (arith, l.invariant.1, most a.s.now a.at l.i, c.field-sum.ensures, field_lt a.s.now (a.at + 20 * l.i) 20)

loop-again : tie.Need-loop-i-preserved invariant-loop decreases-loop
loop-again c =
    let a = c.before.before.before.before.args in
    let l = c.before.before.loop-i in
    (omega arith, omega (arith, l.invariant.1, more a.s.now a.at l.i, c.field-sum.ensures))

returns : tie.Need-returns invariant-loop decreases-loop
returns c =
    let a = c.before.before.before.args in
    let l = c.before.loop-i in
    let e : l.i ≡ a.n = omega arith in
    (rw e at l.invariant.1, omega (arith, l.invariant.1, most a.s.now a.at l.i))

pub sum_at_spec : {M : Type 1} → statement M
sum_at_spec =
    tie.close
    (tie.spec
    invariant-loop
    decreases-loop
    loop-holds
    (λ c. search rules)
    (λ c. search rules)
    (λ c κs. search rules)
    add-sum
    (λ c. search rules)
    (λ c. search rules)
    loop-again
    returns)
