-- The range of an exposure is from 1 to 1,000,000. Assumes nothing.
use borrow.Author.Rules.{rules}
use mathlib.Core.Path.{◌∙◌, ap}
use Rattle.rules.specs.Lists.{every, between}
use native.Mathlib.Omega.{arith}
use Rattle.rules.specs.Record.{million, in_range}
use lib.ListN.{length}
use lib.Seq.{take_all}
use Rattle.history_questions.proofs.exposures_pass.Statement.{statement}
use Rattle.history_questions.proofs.exposures_pass.Tie as tie

within-requires : tie.Need-within-requires
within-requires c κs = search rules

returns : tie.Need-returns
unfolding in_range
returns c = c.within.ensures ∙ ap (every (between 1 million)) (take_all (length c.before.before.args.exposures.now) c.before.before.args.exposures.now (omega arith))

pub exposures_pass_spec : {M : Type 1} → statement M
exposures_pass_spec = tie.close (tie.spec within-requires returns)
