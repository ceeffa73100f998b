-- Two thirds of the width. Assumes nothing.
use native.Mathlib.Omega.{arith}
use mathlib.Core.Path.{ap}
use Prim.Native.Nat.{ℕ, ◌*◌, ◌/◌}
use Rattle.figure_caption.specs.Caption.{wide_of, least_of}
use borrow.Author.Rules.{rules}
use Rattle.figure_caption.proofs.least_of.Statement.{statement}
use Rattle.figure_caption.proofs.least_of.Tie as tie

mul-result : tie.Need-overflow_mul-result
unfolding wide_of
mul-result c = record { fits = omega (arith, c.wide_of.ensures, c.before.requires) }

returns : tie.Need-returns
unfolding least_of
returns c = ap (λ (w : ℕ). 2 * w / 3) c.wide_of.ensures

pub least_of_spec : {M : Type 1} → statement M
least_of_spec =
    tie.close
    (tie.spec
    (λ c κs. search rules)
    mul-result
    returns)
