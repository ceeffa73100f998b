-- At most eight settings have at most 120 entries each. Assumes nothing.
use borrow.Author.Rules.{rules}
use native.Mathlib.Nat.{mul-le-mul}
use native.Mathlib.Omega.{arith}
use mathlib.Core.Path.{refl}
use Rattle.rules.specs.Hindsight.{hindsight_count, holds_report}
use Rattle.hindsight_questions.proofs.holds_report.Statement.{statement}
use Rattle.hindsight_questions.proofs.holds_report.Tie as tie

setting-count-requires : tie.Need-setting_count-requires
setting-count-requires c κs = search rules

mul-result : tie.Need-overflow_mul-result
mul-result c = omega (arith, mul-le-mul c.before.requires.1 c.setting_count.ensures.1)

add-result : tie.Need-overflow_add-result
add-result c = omega (arith, mul-le-mul c.before.requires.1 c.setting_count.ensures.1)

returns : tie.Need-returns
unfolding holds_report hindsight_count
returns c = rw c.setting_count.ensures.0 refl

pub holds_report_spec : {M : Type 1} → statement M
holds_report_spec = tie.close (tie.spec setting-count-requires mul-result add-result returns)
