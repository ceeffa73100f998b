-- The digits of a decimal make a number that is a float, over a power of ten that is one. Assumes nothing.
use mathlib.Core.Path.{◌≡◌, ap, ◌∙◌}
use native.Mathlib.Omega.{arith}
use lib.ListN.{length}
use Rattle.decimals.specs.Decimals.{fraction_digits, numerator, decimal_of}
use Rattle.decimals.proofs.Decimals.{decimal_short, numerator_most}
use borrow.Author.Rules.{rules}
use Rattle.decimals.proofs.decimal_of.Statement.{statement}
use Rattle.decimals.proofs.decimal_of.Tie as tie

-- the number of the digits, and how many come after the point
digits : (n : tie.After-size_from-n) → n.size_from-n.result ≡ numerator n.before.before.before.before.before.args.word.now
unfolding numerator
digits n = n.size_from-n.ensures.0 ∙ rw (n.before.before.size_from-whole.ensures.0, n.before.before.before.whole_digits.ensures, n.before.fraction_digits-fraction.ensures)

places : (n : tie.After-size_from-n) → length n.before.fraction_digits-fraction.result.now ≡ length (fraction_digits n.before.before.before.before.before.args.word.now)
places n = ap length n.before.fraction_digits-fraction.ensures

quotient-of-requires : tie.Need-quotient_of-requires
quotient-of-requires c κs =
    let n = c.before in
    let e = n.before.before.before.before.before in
    (rw (digits n) (numerator_most e.args.word.now e.requires), omega (arith, places n, decimal_short e.args.word.now e.requires))

returns : tie.Need-returns
unfolding decimal_of
returns c = c.quotient_of.ensures ∙ rw (c.before.is_negative.ensures, digits c.before.before, places c.before.before)

pub decimal_of_spec : {M : Type 1} → statement M
decimal_of_spec =
    tie.close
    (tie.spec
    (λ c κs. search rules)
    (λ c κs. search rules)
    (λ c κs. search rules)
    (λ c κs. search rules)
    (λ c κs. search rules)
    quotient-of-requires
    returns)
