-- The line as it is defined. Assumes nothing.
use mathlib.Core.Path.{refl}
use Rattle.axis.specs.Axis.{foot_line}
use borrow.Author.Rules.{rules}
use Rattle.axis.proofs.foot_line.Statement.{statement}
use Rattle.axis.proofs.foot_line.Tie as tie

returns : tie.Need-returns
unfolding foot_line
returns c = refl

pub foot_line_spec : {M : Type 1} → statement M
foot_line_spec =
    tie.close
    (tie.spec
    (λ c. search rules)
    (λ c. search rules)
    (λ c. search rules)
    returns)
