-- The loop's invariant: the gaps of the first m origin years are added up. Assumes nothing.
use mir.Syntax.{w64}
use mathlib.Core.Path.{◌≡◌, sym, ap, ◌∙◌}
use mathlib.Core.List.{List}
use Prim.Native.Nat.{ℕ, ◌+◌, ◌-◌, ◌≤◌}
use native.Mathlib.Numerals.{add-one}
use native.Mathlib.Omega.{arith}
use lib.IntN.{ℤ, nat_abs}
use mir.Facts.{to_z-of_z}
use borrow.Author.Rules.{rules, sfits_of}
use Rattle.rules.specs.Lists.{total, up_to}
use Rattle.laws.proofs.Totals.{total_none, total_more}
use Rattle.hindsight_places.specs.Places.{gap_at}
use Rattle.hindsight_places.proofs.Small.{gap_small}
use Rattle.hindsight_steps.specs.Steps.{step_sum}
use Rattle.hindsight_steps.proofs.Small.{gaps_small}
use Rattle.hindsight_steps.proofs.step_sum.Statement.{statement}
use Rattle.hindsight_steps.proofs.step_sum.Tie as tie

-- the absolute gap of origin year m + 1
abbrev size_at : List ℤ → ℕ → ℕ → ℕ → ℕ → ℕ
size_at list k a h m = nat_abs (gap_at list k a h (m + 1))

abbrev invariant-loop : tie.invariant-loop-m
invariant-loop list k a h sum₀ m₀ sum m = (m ≤ h) × (sum ≡ total (up_to (size_at list k a h) m))

abbrev decreases-loop : tie.decreases-loop-m
decreases-loop list k a h sum₀ m₀ sum m = h - m

loop-holds : tie.Need-loop-m-init invariant-loop decreases-loop
loop-holds c = (omega arith, sym (total_none (size_at c.args.list.now c.args.k c.args.a c.args.h)))

gap-of-requires : tie.Need-gap_of-requires invariant-loop decreases-loop
gap-of-requires c κs =
    let s = c.before.before in
    (s.requires.0, (s.requires.1.0, (omega arith, omega arith)))

add-sum : tie.Need-overflow_add-sum invariant-loop decreases-loop
add-sum c =
    let s = c.before.before.before.before in
    let l = c.before.before.before.loop-m in
    let x : c.size_of-sum.result ≡ size_at s.args.list.now s.args.k s.args.a s.args.h l.m = c.size_of-sum.ensures ∙ ap nat_abs (to_z-of_z {w = w64} (sfits_of c.before.gap_of.type_inv) ∙ c.before.gap_of.ensures) in
    record { fits = omega (arith, x, l.invariant.1, gaps_small s.args.list.now s.requires.1.1 s.args.k s.args.a s.args.h l.m, gap_small s.args.list.now s.requires.1.1 s.args.k s.args.a s.args.h (l.m + 1)) }

loop-again : tie.Need-loop-m-preserved invariant-loop decreases-loop
loop-again c =
    let s = c.before.before.before.before in
    let l = c.before.before.before.loop-m in
    let f = size_at s.args.list.now s.args.k s.args.a s.args.h in
    let x : c.size_of-sum.result ≡ f l.m = c.size_of-sum.ensures ∙ ap nat_abs (to_z-of_z {w = w64} (sfits_of c.before.gap_of.type_inv) ∙ c.before.gap_of.ensures) in
    (omega arith, rw (x, l.invariant.1) (sym (total_more f l.m) ∙ ap (λ (z : ℕ). total (up_to f z)) (sym (add-one l.m))))

returns : tie.Need-returns invariant-loop decreases-loop
unfolding step_sum
returns c =
    let e : c.before.loop-m.m ≡ c.before.before.args.h = omega arith in
    rw e at c.before.loop-m.invariant.1

pub step_sum_spec : {M : Type 1} → statement M
step_sum_spec =
    tie.close
    (tie.spec
    invariant-loop
    decreases-loop
    loop-holds
    (λ c. search rules)
    gap-of-requires
    (λ c κs. search rules)
    add-sum
    (λ c. search rules)
    (λ c. omega arith)
    loop-again
    returns)
