-- By whether both bytes are there. Assumes nothing.
use native.Mathlib.Omega.{arith}
use borrow.Author.Rules.{rules}
use borrow.Author.Tests.{lt-leb, le-leb}
use lib.ListN.{length}
use Rattle.valuation.specs.Valuation.{year_in}
use Rattle.valuation.proofs.year_of.Statement.{statement}
use Rattle.valuation.proofs.year_of.Tie as tie

returns : tie.Need-returns-then-input-lt2
unfolding year_in
returns c = (rw (lt-leb 2 (length c.before.before.args.input.now) c.if-input-lt2.true), omega arith)

returns-2 : tie.Need-returns
unfolding year_in
returns-2 c = (rw (le-leb 2 (length c.before.before.before.args.input.now) c.before.if-input-lt2.false) c.pair_at.ensures.0, c.pair_at.ensures.1)

pub year_of_spec : {M : Type 1} → statement M
year_of_spec = tie.close (tie.spec returns (λ c κs. search rules) returns-2)
