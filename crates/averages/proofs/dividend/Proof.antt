-- `averages::dividend` meets its contract, by the amount's sign (proofs/Rounding.antt). Assumes nothing.
use mathlib.Core.Path.{◌≡◌}
use borrow.Author.Rules.{rules}
use lib.IntN.{◌+ℤ◌, ◌-ℤ◌}
use mir.Syntax.{w64}
use mir.Val.{to_z}
use mir.Facts.{to_z-of_z}
use Rattle.averages.proofs.Rounding.{times, away, product_fits, dividend_below, dividend_above, dividend_fits}
use Rattle.averages.proofs.dividend.Statement.{statement}
use Rattle.averages.proofs.dividend.Tie as tie

below : (c : tie.Then-paid-lt0) → times c.before.args.paid -ℤ to_z w64 c.before.args.claims ≡ away c.before.args.paid c.before.args.claims
below c = let s = c.before in dividend_below s.args.paid s.args.claims s.requires c.if-paid-lt0.true

above : (c : tie.Else-paid-lt0) → times c.before.args.paid +ℤ to_z w64 c.before.args.claims ≡ away c.before.args.paid c.before.args.claims
above c = let s = c.before in dividend_above s.args.paid s.args.claims s.requires c.if-paid-lt0.false

mul-result : tie.Need-overflow_mul-result
mul-result c = let s = c.before in product_fits s.args.paid s.args.claims s.requires

sub-result : tie.Need-overflow_sub-result
sub-result c = let s = c.before in rw (below c) (dividend_fits s.args.paid s.args.claims s.requires)

mul-result-2 : tie.Need-overflow_mul-result-else-paid-lt0
mul-result-2 c = let s = c.before in product_fits s.args.paid s.args.claims s.requires

add-result : tie.Need-overflow_add-result
add-result c = let s = c.before in rw (above c) (dividend_fits s.args.paid s.args.claims s.requires)

returns : tie.Need-returns-then-paid-lt0
returns c = let s = c.before in rw (below c) (to_z-of_z (dividend_fits s.args.paid s.args.claims s.requires))

returns-2 : tie.Need-returns-else-paid-lt0
returns-2 c = let s = c.before in rw (above c) (to_z-of_z (dividend_fits s.args.paid s.args.claims s.requires))

pub dividend_spec : {M : Type 1} → statement M
dividend_spec = tie.close (tie.spec (λ c. search rules) mul-result sub-result mul-result-2 add-result returns returns-2)
