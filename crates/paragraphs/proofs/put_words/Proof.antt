-- By the page. Assumes nothing.
use Rattle.parts.specs.Parts.{either}
use Rattle.paragraphs.specs.Paragraphs.{words}
use borrow.Author.Rules.{rules}
use Rattle.paragraphs.proofs.put_words.Statement.{statement}
use Rattle.paragraphs.proofs.put_words.Tie as tie

returns : tie.Need-returns-then-html
unfolding words either
returns c = rw c.before.before.before.before.if-html.true c.before.before.put_text.ensures

returns-2 : tie.Need-returns-else-html
unfolding words either
returns-2 c = rw c.before.before.before.before.if-html.false c.before.before.put_bytes.ensures

pub put_words_spec : {M : Type 1} → statement M
put_words_spec =
    tie.close
    (tie.spec
    (λ c κs. search rules)
    (λ c κs. search rules)
    (λ c. search rules)
    returns
    (λ c. search rules)
    returns-2)
