-- The loop's invariant: i digits are left out. Assumes nothing.
use mathlib.Core.Path.{◌≡◌, refl, sym, ap, ◌∙◌}
use native.Mathlib.Omega.{arith}
use Prim.Native.Nat.{ℕ, ◌-◌, ◌/◌, ◌≤◌}
use Rattle.composing.specs.Text.{without}
use Rattle.composing.proofs.Decimals.{without_more}
use Rattle.fixed_text.proofs.shortened.Statement.{statement}
use Rattle.fixed_text.proofs.shortened.Tie as tie

abbrev invariant-loop : tie.invariant-loop-i
invariant-loop d n rest₀ i₀ rest i = (i ≤ d) × (rest ≡ without i n)

abbrev decreases-loop : tie.decreases-loop-i
decreases-loop d n rest₀ i₀ rest i = d - i

loop-holds : tie.Need-loop-i-init invariant-loop decreases-loop
unfolding without
loop-holds c = (omega arith, refl)

add-i : tie.Need-overflow_step-i invariant-loop decreases-loop
add-i c = omega arith

loop-less : tie.Need-loop-i-smaller invariant-loop decreases-loop
loop-less c = omega arith

loop-again : tie.Need-loop-i-preserved invariant-loop decreases-loop
loop-again c =
    let l = c.before.loop-i in
    (omega arith, ap (λ (m : ℕ). m / 10) l.invariant.1 ∙ sym (without_more l.i c.before.before.args.n))

returns : tie.Need-returns invariant-loop decreases-loop
returns c =
    let e : c.before.loop-i.i ≡ c.before.before.args.d = omega arith in
    rw e at c.before.loop-i.invariant.1

pub shortened_spec : {M : Type 1} → statement M
shortened_spec = tie.close (tie.spec invariant-loop decreases-loop loop-holds add-i loop-less loop-again returns)
