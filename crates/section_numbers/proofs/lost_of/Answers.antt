-- By what is_lost answers, as a number. Assumes nothing.
use Rattle.std.proofs.Common.{rules, ◌≡◌, ◌≤◌, Bool, true, false, cond, refl, arith}
use mir.Val.{bool_byte}
use Rattle.shading.specs.Shading.{is_lost}
use Rattle.section_numbers.specs.Numbers.{lost_one}
use Rattle.section_numbers.proofs.lost_of.Goals as goal

as_number : (b : Bool) → (bool_byte b ≡ cond b 1 0) × (bool_byte b ≤ 1)
as_number true = (refl, omega arith)
as_number false = (refl, omega arith)

pub returns : goal.returns
unfolding lost_one
returns c =
    let said : c.is_lost.result ≡ is_lost c.args.payment c.args.average = search rules in
    rw (c.from.ensures, said) (as_number (is_lost c.args.payment c.args.average))
