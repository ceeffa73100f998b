-- One text or the other. Assumes nothing.
use Rattle.paragraphs.specs.Paragraphs.{paragraph_end}
use borrow.Author.Rules.{rules}
use Rattle.paragraphs.proofs.put_paragraph_end.Statement.{statement}
use Rattle.paragraphs.proofs.put_paragraph_end.Tie as tie

returns : tie.Need-returns
unfolding paragraph_end
returns c = c.before.before.put_either.ensures

pub put_paragraph_end_spec : {M : Type 1} → statement M
put_paragraph_end_spec =
    tie.close
    (tie.spec
    (λ c κs. search rules)
    (λ c. search rules)
    returns)
