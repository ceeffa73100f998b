-- The comparison is the definition. Assumes nothing.
use Rattle.rules.specs.Growth.{corrects}
use borrow.Author.Rules.{rules}
use Rattle.growth.proofs.corrects.Statement.{statement}
use Rattle.growth.proofs.corrects.Tie as tie

returns : tie.Need-returns
unfolding corrects
returns c = search rules

pub corrects_spec : {M : Type 1} → statement M
corrects_spec = tie.close (tie.spec returns)
