-- On the page of HTML. Assumes nothing.
use Rattle.composing.proofs.Puts.{put_none}
use borrow.Author.Rules.{rules}
use Rattle.record_section.proofs.put_web_digits_text.Statement.{statement}
use Rattle.record_section.proofs.put_web_digits_text.Tie as tie

returns : tie.Need-returns-then-html
returns c =
    rw c.before.before.before.before.if-html.true (c.before.before.put_digits_text.ensures)

returns-2 : tie.Need-returns-else-html
returns-2 c =
    rw c.if-html.false (put_none _ _)

pub put_web_digits_text_spec : {M : Type 1} → statement M
put_web_digits_text_spec =
    tie.close
    (tie.spec (λ c κs. search rules) (λ c. search rules) returns returns-2)
