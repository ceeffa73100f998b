-- The sums are those of the years 0 to k. Assumes nothing.
use native.Mathlib.Omega.{arith}
use Rattle.outcomes.proofs.plain_ratio_again.Statement.{statement}
use Rattle.outcomes.proofs.plain_ratio_again.Tie as tie
use borrow.Author.Rules.{rules}

sum-of-requires : tie.Need-sum_of-requires
sum-of-requires c κs = let s = c.before in (omega (arith, c.sum_of-arg-1.given), (omega arith, λ i l. s.requires.1.0 i))

sum-of-requires-2 : tie.Need-sum_of-requires-2
sum-of-requires-2 c κs = let s = c.before.before.before in (omega (arith, c.sum_of-arg-2-1.given), (omega arith, λ i l. s.requires.1.1.0 i))

returns : tie.Need-returns
returns c = rw (c.before.before.before.sum_of.ensures, c.before.sum_of-2.ensures) at c.plain_ratio.ensures

pub plain_ratio_again_spec : {M : Type 1} → statement M
plain_ratio_again_spec = tie.close (tie.spec (λ c. search rules) sum-of-requires sum-of-requires-2 (λ c κs. search rules) returns)
