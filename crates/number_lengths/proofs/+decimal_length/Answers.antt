-- One digit takes one place (length_digit), and several take one more than all but the last (length_digits, length_most). Assumes nothing.
use Prim.Native.Nat.{◌/◌}
use native.Mathlib.Omega.{arith}
use Rattle.composing.proofs.Decimals.{length_digit, length_digits, length_most}
use Rattle.number_lengths.proofs.+decimal_length.Goals as goal

pub returns-then-n-lt10 : goal.returns-then-n-lt10
returns-then-n-lt10 t c = omega (arith, length_digit c.args.n (omega arith))

pub returns-else-n-lt10 : goal.returns-else-n-lt10
returns-else-n-lt10 t c = omega (arith, c.decimal_length.ensures, length_digits c.args.n (omega arith) (omega arith))

pub overflow_add-result : goal.overflow_add-result
overflow_add-result t c = omega (arith, c.decimal_length.ensures, length_most (c.args.n / 10))
