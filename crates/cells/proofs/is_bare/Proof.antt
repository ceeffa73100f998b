-- No byte is found that is none of these. Assumes nothing.
use Rattle.composing.specs.Text.{ascii}
use Rattle.cells.specs.Cells.{is_bare}
use Rattle.separating.proofs.Over.{every_is}
use borrow.Author.Rules.{rules}
use Rattle.cells.proofs.is_bare.Statement.{statement}
use Rattle.cells.proofs.is_bare.Tie as tie

returns : tie.Need-returns
unfolding is_bare
returns c =
    every_is (ascii " \t,;\"") c.before.before.before.before.args.line.now c.find.result c.find.ensures.0

pub is_bare_spec : {M : Type 1} → statement M
is_bare_spec = tie.close (tie.spec
    (λ c κs. search rules)
    returns)
