-- The sign bit is 0 below 2 ^ 34 and 1 from there on. Assumes nothing.
use mathlib.Core.Path.{sym, ◌∙◌}
use Prim.Native.Nat.{◌-◌, ◌^◌}
use native.Mathlib.Omega.{arith}
use mir.Syntax.{w64}
use mir.ValLaws.{to_z_pos}
use Rattle.laws.proofs.Signed.{minus}
use Rattle.reading.proofs.AmountsRead.{amount_plus, amount_minus}
use Rattle.reading.proofs.amount.Goals as goal

pub returns-then-code-lt-SIGN : goal.returns-then-code-lt-SIGN
returns-then-code-lt-SIGN c = to_z_pos w64 c.args.code (omega arith) ∙ sym (amount_plus c.args.code c.if-code-lt-SIGN.true)

pub returns-else-code-lt-SIGN : goal.returns-else-code-lt-SIGN
returns-else-code-lt-SIGN c = minus (c.args.code - 2 ^ 34) (omega arith) ∙ sym (amount_minus c.args.code c.if-code-lt-SIGN.false c.requires)
