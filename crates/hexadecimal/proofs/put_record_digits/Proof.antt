-- By the page. Assumes nothing.
use Rattle.hexadecimal.specs.Hexadecimal.{digits_in}
use borrow.Author.Rules.{rules}
use Rattle.hexadecimal.proofs.put_record_digits.Statement.{statement}
use Rattle.hexadecimal.proofs.put_record_digits.Tie as tie

returns : tie.Need-returns-then-html
unfolding digits_in
returns c = rw c.before.before.before.before.if-html.true c.before.before.put_hex.ensures

returns-2 : tie.Need-returns-else-html
unfolding digits_in
returns-2 c = rw c.before.before.before.before.if-html.false c.before.before.put_hex_lines.ensures

pub put_record_digits_spec : {M : Type 1} → statement M
put_record_digits_spec =
    tie.close
    (tie.spec
    (λ c κs. search rules)
    (λ c κs. search rules)
    (λ c. search rules)
    returns
    (λ c. search rules)
    returns-2)
