-- At most 63 positions of at most 33 entries. Assumes nothing.
use mathlib.Core.Path.{refl}
use Prim.Native.Nat.{◌+◌, ◌-◌, ◌*◌, ◌≤◌}
use native.Mathlib.Nat.{mul-le-mul}
use native.Mathlib.Omega.{arith}
use Rattle.rules.specs.History.{position_count, history_count}
use Rattle.history_questions.specs.Asked.{Widths}
use Rattle.history_questions.proofs.Passed.{widths_known}
use Rattle.history_questions.proofs.entries_of.Statement.{statement}
use Rattle.history_questions.proofs.entries_of.Tie as tie

known : (s : tie.Start) → Widths s.args.years s.args.width
known s = widths_known s.args.years s.args.width s.requires

sub-result : tie.Need-overflow_sub-result
sub-result c = omega (arith, (known c).within)

add-result : tie.Need-overflow_add-result
add-result c = omega (arith, (known c).few)

mul-result : tie.Need-overflow_mul-result
mul-result c = omega (arith, (known c).narrow)

add-result-2 : tie.Need-overflow_add-result-2
add-result-2 c = omega (arith, (known c).narrow)

mul-result-2 : tie.Need-overflow_mul-result-2
mul-result-2 c =
    let k = known c in
    let most : (c.args.years - c.args.width + 1) * (1 + 2 * c.args.width) ≤ 65 * 33 = mul-le-mul {n₂ = 65} {m₂ = 33} (omega (arith, k.few)) (omega (arith, k.narrow)) in
    omega (arith, most)

returns : tie.Need-returns
unfolding history_count position_count
returns c = refl

pub entries_of_spec : {M : Type 1} → statement M
entries_of_spec = tie.close (tie.spec sub-result add-result mul-result add-result-2 mul-result-2 returns)
