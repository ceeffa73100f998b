-- A numeral with elements as gaps. Assumes nothing.
use mir.Facts.{to_z-of_z}
use Rattle.numerals.specs.Numerals.{number}
use borrow.Author.Rules.{rules}
use Rattle.numerals.proofs.put_number.Statement.{statement}
use Rattle.numerals.proofs.put_number.Tie as tie

returns : tie.Need-returns
unfolding number
returns c = rw (to_z-of_z c.before.before.before.before.before.before.before.before.before.ranges.z) at c.before.before.put_numeral.ensures

pub put_number_spec : {M : Type 1} → statement M
put_number_spec =
    tie.close
    (tie.spec
    (λ c κs. search rules)
    (λ c. search rules)
    returns)
