-- One digit is put (put_digit), and the last of several after the others (put_digits). Assumes nothing.
use native.Mathlib.Omega.{arith}
use Rattle.composing.proofs.Decimals.{put_digit, put_digits}
use Rattle.composing.proofs.+put_decimal.Goals as goal

pub returns-then-n-lt10 : goal.returns-then-n-lt10
returns-then-n-lt10 t c = put_digit c.args.n (omega arith) c.digit_of.ensures c.put_byte.ensures

pub returns-else-n-lt10 : goal.returns-else-n-lt10
returns-else-n-lt10 t c =
    put_digits c.args.n (omega arith) (omega arith) c.put_decimal-end.ensures c.digit_of-else-n-lt10.ensures c.put_byte-else-n-lt10.ensures
