-- Both numbers are floats, so that the division rounds once. Assumes nothing.
use mathlib.Core.Path.{◌∙◌}
use Prim.Native.Nat.{◌^◌, ◌≤◌, ◌<◌}
use native.Mathlib.Omega.{arith}
use borrow.Author.Rules.{rules}
use lib.Dec.{le→leb}
use lib.Ieee.{in_float}
use Rattle.decimals.proofs.Decimals.{ten_most, ten_least}
use Rattle.decimals.proofs.Quotients.{whole_quotient, whole_quotient_below}
use Rattle.decimals.proofs.quotient_of.Statement.{statement}
use Rattle.decimals.proofs.quotient_of.Tie as tie

int-to-float-size : tie.Need-int_to_float-size
unfolding in_float
int-to-float-size c = le→leb c.before.args.n (2 ^ 53) (omega arith)

-- the power of ten
power : (p : tie.After-power_of_ten-power) → (p.power_of_ten-power.result ≤ 2 ^ 53) × (0 < p.power_of_ten-power.result)
power p = rw p.power_of_ten-power.ensures (omega (arith, ten_most p.before.before.args.d p.before.before.requires.1), ten_least p.before.before.args.d)

int-to-float-power : tie.Need-int_to_float-power
unfolding in_float
int-to-float-power c = le→leb _ (2 ^ 53) (power c.before).0

returns : tie.Need-returns-then-negative
returns c =
    let p = c.before.before in
    let a = p.before.before.args in
    whole_quotient_below a.n p.power_of_ten-power.result (omega arith) (power p).0 (power p).1 ∙ rw (c.if-negative.true, p.power_of_ten-power.ensures)

returns-2 : tie.Need-returns
returns-2 c =
    let p = c.before.before in
    let a = p.before.before.args in
    whole_quotient a.n p.power_of_ten-power.result (omega arith) (power p).0 (power p).1 ∙ rw (c.if-negative.false, p.power_of_ten-power.ensures)

pub quotient_of_spec : {M : Type 1} → statement M
quotient_of_spec = tie.close (tie.spec int-to-float-size (λ c κs. search rules) int-to-float-power returns returns-2)
