-- The products are within 10^9 × 5 × 10^9 and 10^6 × 5 × 10^9. Assumes nothing.
use mathlib.Core.Path.{refl}
use native.Mathlib.Nat.{mul-le-mul}
use native.Mathlib.Omega.{arith}
use Rattle.rules.specs.Completion.{payment_of}
use Rattle.completion.proofs.PaymentsMost.{unit_most, payment_most}
use Rattle.completion.proofs.payment.Goals as goal

pub overflow_mul-unit : goal.overflow_mul-unit
overflow_mul-unit c = omega (arith, mul-le-mul c.requires.1.0 c.requires.1.1)

pub overflow_mul-result : goal.overflow_mul-result
overflow_mul-result c = omega (arith, mul-le-mul c.requires.0 (unit_most c.args.share c.args.level c.requires.1.0 c.requires.1.1))

pub returns : goal.returns
unfolding payment_of
returns c = (refl, payment_most c.args.claims c.args.share c.args.level c.requires.0 c.requires.1.0 c.requires.1.1)
