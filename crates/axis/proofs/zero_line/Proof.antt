-- The line as it is defined. Assumes nothing.
use mathlib.Core.Path.{refl}
use Rattle.axis.specs.Axis.{zero_line}
use borrow.Author.Rules.{rules}
use Rattle.axis.proofs.zero_line.Statement.{statement}
use Rattle.axis.proofs.zero_line.Tie as tie

returns : tie.Need-returns
unfolding zero_line
returns c = refl

pub zero_line_spec : {M : Type 1} → statement M
zero_line_spec =
    tie.close
    (tie.spec
    (λ c. search rules)
    (λ c. search rules)
    returns)
