-- The loop's invariant: the first i numbers pass. Assumes nothing.
use mathlib.Core.Path.{◌≡◌, refl, sym, ◌∙◌}
use mathlib.Core.Bool.{Bool, true}
use mathlib.Core.List.{List}
use Prim.Native.Nat.{ℕ, suc, ◌-◌, ◌≤◌}
use native.Mathlib.Numerals.{add-one}
use native.Mathlib.Omega.{arith}
use Rattle.rules.specs.Lists.{up_to, below, every}
use Rattle.entries.proofs.Leading.{leading_all, leading_stop}
use Rattle.inflation.proofs.Years.{below_more}
use Rattle.inflation_line.specs.InflationLine.{number_at, number_passes, passing_numbers}
use borrow.Author.Rules.{rules}
use Rattle.inflation_line.proofs.passing_numbers.Statement.{statement}
use Rattle.inflation_line.proofs.passing_numbers.Tie as tie

-- the test of number i + 1
abbrev test : Bool → ℕ → List ℕ → ℕ → Bool
test asked years line i = number_passes asked years (suc i) (number_at line (suc i))

abbrev invariant-loop : tie.invariant-loop-i
invariant-loop asked years line m i₀ i = (i ≤ m) × (every (test asked years line) (below i) ≡ true)

abbrev decreases-loop : tie.decreases-loop-i
decreases-loop asked years line m i₀ i = m - i

loop-holds : tie.Need-loop-i-init invariant-loop decreases-loop
unfolding every up_to
loop-holds c = (omega arith, refl)

-- what was said of number i + 1
said : (n : tie.After-number_passes invariant-loop decreases-loop)
    → test n.before.before.before.before.before.args.asked n.before.before.before.before.before.args.years n.before.before.before.before.before.args.line.now n.before.before.before.loop-i.i
    ≡ n.number_passes.result
said n = rw (← add-one n.before.before.before.loop-i.i) (sym (n.number_passes.ensures ∙ rw n.before.cell_at.ensures))

returns : tie.Need-returns-then-not-number_passes invariant-loop decreases-loop
unfolding passing_numbers
returns c =
    let l = c.before.before.before.before in
    let a = l.before.before.args in
    (sym (leading_stop (test a.asked a.years a.line.now) a.m l.loop-i.i (omega arith) l.loop-i.invariant.1 (said c.before ∙ c.if-not-number_passes.true)), omega arith)

loop-again : tie.Need-loop-i-preserved invariant-loop decreases-loop
loop-again c =
    let l = c.before.before.before.before in
    let a = l.before.before.args in
    (omega arith, below_more (test a.asked a.years a.line.now) l.loop-i.i l.loop-i.invariant.1 (said c.before ∙ c.if-not-number_passes.false))

returns-2 : tie.Need-returns invariant-loop decreases-loop
unfolding passing_numbers
returns-2 c =
    let l = c.before in
    let a = l.before.before.args in
    let e : l.loop-i.i ≡ a.m = omega arith in
    (sym (leading_all (test a.asked a.years a.line.now) a.m (rw e at l.loop-i.invariant.1)), omega arith)

pub passing_numbers_spec : {M : Type 1} → statement M
passing_numbers_spec =
    tie.close
    (tie.spec
    invariant-loop
    decreases-loop
    loop-holds
    (λ c. search rules)
    (λ c. search rules)
    (λ c κs. search rules)
    (λ c κs. search rules)
    returns
    (λ c. search rules)
    (λ c. search rules)
    loop-again
    returns-2)
