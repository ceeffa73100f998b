-- Half of (j + 1) × j is where row j + 1 starts (payment_place). Assumes nothing.
use Prim.Native.Nat.{ℕ, zero, suc, ◌+◌, ◌-◌, ◌*◌, ◌/◌, ◌≤◌, ◌<◌}
use native.Mathlib.Omega.{arith}
use mathlib.Core.Path.{◌≡◌, refl, sym, ap, ◌∙◌}
use Rattle.rules.specs.Triangle.{future_start}
use Rattle.future_figures.specs.FutureFigures.{ultimate_place}
use Rattle.future_figures.proofs.Future.{payment_place, place_most}
use borrow.Author.Rules.{rules}
use Rattle.future_figures.proofs.ultimate_place.Statement.{statement}
use Rattle.future_figures.proofs.ultimate_place.Tie as tie

returns : tie.Need-returns-then-i-eq0
unfolding ultimate_place
returns c =
    let e : c.before.args.i ≡ 0 = omega arith in
    rw e

later : (p c i : ℕ) → 1 ≤ i → c + ((i - 1 + 1) * (i - 1) / 2 + (i - 1)) ≡ ultimate_place p c i
unfolding ultimate_place
later p c zero h = absurd (omega arith)
later p c (suc j) h =
    let e : suc j - 1 ≡ j = omega arith in
    rw (e, payment_place j)

pub ultimate_place_spec : {M : Type 1} → statement M
ultimate_place_spec =
    tie.close
    (tie.spec
    returns
    (λ c. search rules)
    (λ c. search rules)
    (λ c. omega (arith, place_most (c.before.args.i - 1) (omega arith)))
    (λ c. omega (arith, place_most (c.before.args.i - 1) (omega arith)))
    (λ c. omega (arith, place_most (c.before.args.i - 1) (omega arith)))
    (λ c. later c.before.args.p c.before.args.c c.before.args.i (omega arith)))
