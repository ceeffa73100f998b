-- Sixteen numbers up to 10^12 add up to less than 2^63. Assumes nothing.
use borrow.Author.Rules.{rules}
use native.Mathlib.Omega.{arith}
use Prim.Native.Nat.{◌+◌}
use Rattle.rules.specs.Completion.{most_ultimate}
use Rattle.laws.proofs.Lists.{total_most}
use Rattle.reserve_findings.proofs.ratio_found.Statement.{statement}
use Rattle.reserve_findings.proofs.ratio_found.Tie as tie

sum-of-requires : tie.Need-sum_of-requires
sum-of-requires c κs = let s = c.before in (omega (arith, c.sum_of-arg-1.given), (omega (arith, s.requires.0), λ i l. s.requires.1.0 i))

sum-of-requires-2 : tie.Need-sum_of-requires-2
sum-of-requires-2 c κs = let s = c.before.before.before in (omega (arith, c.sum_of-arg-2-1.given), (omega (arith, s.requires.0), λ i l. s.requires.1.1 i))

of-naturals-requires : tie.Need-of_naturals-requires
of-naturals-requires c κs =
    let s = c.before.before.before.before in
    let n = s.args.k + 1 in (
      omega (arith, s.requires.0, c.before.before.sum_of.ensures, total_most most_ultimate s.args.paid.now s.requires.1.0 n),
      (omega (arith, s.requires.0, c.sum_of-2.ensures, total_most most_ultimate s.args.ulae.now s.requires.1.1 n), omega arith),
    )

returns : tie.Need-returns
returns c = rw (c.before.before.before.sum_of.ensures, c.before.sum_of-2.ensures) at c.of_naturals.ensures

pub ratio_found_spec : {M : Type 1} → statement M
ratio_found_spec = tie.close (tie.spec (λ c. search rules) sum-of-requires sum-of-requires-2 of-naturals-requires returns)
