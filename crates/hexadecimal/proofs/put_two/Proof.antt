-- The two digits follow one another. Assumes nothing.
use Rattle.composing.proofs.Puts.{put_append}
use Rattle.hexadecimal.specs.Hexadecimal.{hex_byte}
use borrow.Author.Rules.{rules}
use Rattle.hexadecimal.proofs.put_two.Statement.{statement}
use Rattle.hexadecimal.proofs.put_two.Tie as tie

returns : tie.Need-returns
unfolding hex_byte
returns c = put_append (rw c.before.before.before.before.before.before.before.before.digit_of.ensures at c.before.before.before.before.before.before.before.put_byte-end.ensures) (rw c.before.before.before.digit_of-2.ensures at c.before.before.put_byte.ensures)

pub put_two_spec : {M : Type 1} → statement M
put_two_spec =
    tie.close
    (tie.spec
    (λ c κs. search rules)
    (λ c κs. search rules)
    (λ c κs. search rules)
    (λ c κs. search rules)
    (λ c. search rules)
    returns)
