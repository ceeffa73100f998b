-- One group is put (put_group), and the last of several after the others (put_groups). Assumes nothing.
use native.Mathlib.Omega.{arith}
use Rattle.numerals.proofs.Groups.{put_group, put_groups}
use Rattle.numerals.proofs.+put_grouped.Goals as goal

pub returns-then-n-lt1000 : goal.returns-then-n-lt1000
returns-then-n-lt1000 t c = put_group c.args.before.now c.args.after.now c.args.n (omega arith) c.put_decimal.ensures

pub returns-else-n-lt1000 : goal.returns-else-n-lt1000
returns-else-n-lt1000 t c =
    put_groups c.args.before.now c.args.after.now c.args.n (omega arith) (omega arith) c.put_grouped-front.ensures c.put_bytes-digits.ensures
    c.put_last-end.ensures c.put_bytes.ensures
