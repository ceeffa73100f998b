-- By the first byte, a minus sign or not; a size below 2 ^ 60 fits with either sign. Assumes nothing.
use mathlib.Core.Path.{sym, ap, ◌∙◌}
use native.Mathlib.Omega.{arith}
use lib.IntN.{pos, neg_ℤ}
use mir.Syntax.{w64}
use mir.ValLaws.{to_z_pos}
use Rattle.laws.proofs.Signed.{minus}
use Rattle.scanning.proofs.Numbers.{whole_minus, whole_plain}
use Rattle.scanning.proofs.number_of.Goals as goal

pub returns-in-Some : goal.returns-in-Some
returns-in-Some c =
    minus c.size_from.result (omega (arith, c.size_from.ensures.1))
    ∙ (ap (λ n. neg_ℤ (pos n)) (rw (← c.in-Some.ensures.cases.1) c.size_from.ensures.0) ∙ sym (whole_minus c.args.word.now c.in-Some.ensures.cases.0))

pub returns-in-None : goal.returns-in-None
returns-in-None c =
    to_z_pos w64 c.size_from-in-None.result (omega arith)
    ∙ (ap pos c.size_from-in-None.ensures.0 ∙ sym (whole_plain c.args.word.now c.in-None.ensures.cases))
