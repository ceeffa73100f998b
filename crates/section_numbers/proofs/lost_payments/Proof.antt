-- The loop's invariant: those of the first i payments are counted (total_next). Assumes nothing.
use Prim.Native.Nat.{ℕ, ◌+◌, ◌-◌, ◌≤◌}
use native.Mathlib.Omega.{arith}
use mathlib.Core.Path.{◌≡◌, refl, ap₂, ◌∙◌}
use mathlib.Core.List.{List}
use lib.IntN.{ℤ}
use mir.Syntax.{w64}
use mir.Facts.{to_z-of_z}
use Rattle.rules.specs.Lists.{total, up_to}
use Rattle.vectors.specs.Vectors.{figure_at}
use Rattle.section_numbers.specs.Numbers.{lost_one, lost_of}
use Rattle.section_numbers.proofs.Totals.{total_next}
use borrow.Author.Rules.{rules, sfits_of}
use Rattle.section_numbers.proofs.lost_payments.Statement.{statement}
use Rattle.section_numbers.proofs.lost_payments.Tie as tie

-- whether payment i is lost
abbrev one : List ℤ → ℕ → ℕ → ℕ → ℕ
one xs payments averages i = lost_one (figure_at xs (payments + i)) (figure_at xs (averages + i))

abbrev invariant-loop : tie.invariant-loop-i
invariant-loop figures payments averages n count₀ i₀ count i = (i ≤ n) × ((count ≡ total (up_to (one figures payments averages) i)) × (count ≤ i))

abbrev decreases-loop : tie.decreases-loop-i
decreases-loop figures payments averages n count₀ i₀ count i = n - i

loop-holds : tie.Need-loop-i-init invariant-loop decreases-loop
unfolding total up_to
loop-holds c = (omega arith, (refl, omega arith))

loop-again : tie.Need-loop-i-preserved invariant-loop decreases-loop
loop-again c =
    let l = c.before.before.before.before in
    let s = l.before in
    let xs = s.args.figures.now in
    let payment = to_z-of_z {w = w64} {z = figure_at xs (s.args.payments + l.loop-i.i)} (sfits_of c.before.before.lost_of-arg-1.given) in
    let average = to_z-of_z {w = w64} {z = figure_at xs (s.args.averages + l.loop-i.i)} (sfits_of c.before.lost_of-arg-in-loop-i-1.given) in
    let one_more = c.lost_of-count.ensures.0 ∙ ap₂ lost_one payment average in
    (omega arith, (ap₂ ◌+◌ l.loop-i.invariant.1.0 one_more ∙ total_next (one xs s.args.payments s.args.averages) l.loop-i.i, omega arith))

returns : tie.Need-returns invariant-loop decreases-loop
unfolding lost_of
returns c =
    let e : c.before.loop-i.i ≡ c.before.before.args.n = omega arith in
    (rw e at c.before.loop-i.invariant.1.0, omega arith)

pub lost_payments_spec : {M : Type 1} → statement M
lost_payments_spec =
    tie.close
    (tie.spec
    invariant-loop
    decreases-loop
    loop-holds
    (λ c. omega arith)
    (λ c. omega arith)
    (λ c. omega arith)
    (λ c. omega arith)
    (λ c. omega arith)
    (λ c. omega arith)
    (λ c κs. search rules)
    (λ c. omega arith)
    (λ c. search rules)
    (λ c. search rules)
    loop-again
    returns)
