-- The numbers are small. Assumes nothing.
use native.Mathlib.Omega.{arith}
use mathlib.Core.Path.{◌≡◌, refl}
use Rattle.allowance_figures.specs.Allowances.{allowance}
use Rattle.allowance_figures.proofs.Most.{years, claims}
use Rattle.allowance_figures.proofs.allowance_of.Statement.{statement}
use Rattle.allowance_figures.proofs.allowance_of.Tie as tie

returns : tie.Need-returns
unfolding allowance
returns c = (refl, omega (arith, claims c.args.n c.args.i c.requires.0 c.requires.1))

pub allowance_of_spec : {M : Type 1} → statement M
allowance_of_spec =
    tie.close
    (tie.spec
    (λ c. omega arith)
    (λ c. omega (arith, years c.args.i c.requires.1))
    (λ c. omega (arith, years c.args.i c.requires.1))
    (λ c. omega arith)
    (λ c. omega (arith, years c.args.i c.requires.1))
    (λ c. omega (arith, years c.args.i c.requires.1))
    (λ c. omega (arith, claims c.args.n c.args.i c.requires.0 c.requires.1))
    (λ c. omega arith)
    (λ c. omega arith)
    (λ c. omega (arith, claims c.args.n c.args.i c.requires.0 c.requires.1))
    returns)
