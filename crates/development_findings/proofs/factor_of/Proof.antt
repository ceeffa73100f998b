-- A division by 0 is 0. Assumes nothing.
use mathlib.Core.Path.{◌≡◌, refl}
use native.Mathlib.Nat.{div-zero, div-le_self}
use native.Mathlib.Omega.{arith}
use Prim.Native.Nat.{◌*◌}
use Rattle.rules.specs.Record.{million}
use Rattle.rules.specs.Ladder.{development_factor}
use borrow.Author.Rules.{rules}
use Rattle.development_findings.proofs.factor_of.Statement.{statement}
use Rattle.development_findings.proofs.factor_of.Tie as tie

returns : tie.Need-returns-then-b-eq0
unfolding development_factor
returns c =
    let e : c.before.args.b ≡ 0 = c.if-b-eq0.true in
    (rw (e, div-zero (million * c.before.args.a)), omega arith)

mul-result : tie.Need-overflow_mul-result
mul-result c = search rules

div-result : tie.Need-nonzero_div-result
div-result c = search rules

returns-2 : tie.Need-returns
unfolding development_factor
returns-2 c = (refl, div-le_self (million * c.before.args.a) c.before.args.b)

pub factor_of_spec : {M : Type 1} → statement M
factor_of_spec = tie.close (tie.spec returns mul-result div-result returns-2)
