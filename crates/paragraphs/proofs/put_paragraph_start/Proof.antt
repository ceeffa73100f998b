-- One text or the other. Assumes nothing.
use Rattle.paragraphs.specs.Paragraphs.{paragraph_start}
use borrow.Author.Rules.{rules}
use Rattle.paragraphs.proofs.put_paragraph_start.Statement.{statement}
use Rattle.paragraphs.proofs.put_paragraph_start.Tie as tie

returns : tie.Need-returns
unfolding paragraph_start
returns c = c.before.before.put_either.ensures

pub put_paragraph_start_spec : {M : Type 1} → statement M
put_paragraph_start_spec =
    tie.close
    (tie.spec
    (λ c κs. search rules)
    (λ c. search rules)
    returns)
