-- A numeral with a space as gap. Assumes nothing.
use mir.Facts.{to_z-of_z}
use Rattle.numerals.specs.Numerals.{spaced}
use borrow.Author.Rules.{rules}
use Rattle.numerals.proofs.put_spaced.Statement.{statement}
use Rattle.numerals.proofs.put_spaced.Tie as tie

returns : tie.Need-returns
unfolding spaced
returns c = rw (to_z-of_z c.before.before.before.before.before.before.before.before.before.ranges.z) at c.before.before.put_numeral.ensures

pub put_spaced_spec : {M : Type 1} → statement M
put_spaced_spec =
    tie.close
    (tie.spec
    (λ c κs. search rules)
    (λ c. search rules)
    returns)
