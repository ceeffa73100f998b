-- The larger of the two. Assumes nothing.
use native.Mathlib.Omega.{arith}
use Rattle.figure_caption.specs.Caption.{wide_of}
use borrow.Author.Rules.{rules}
use Rattle.figure_caption.proofs.wide_of.Statement.{statement}
use Rattle.figure_caption.proofs.wide_of.Tie as tie

returns : tie.Need-returns-then-wide-lt300
unfolding wide_of
returns c = omega arith

returns-2 : tie.Need-returns-else-wide-lt300
unfolding wide_of
returns-2 c = omega arith

pub wide_of_spec : {M : Type 1} → statement M
wide_of_spec =
    tie.close
    (tie.spec
    (λ c. search rules)
    (λ c. search rules)
    returns
    returns-2)
