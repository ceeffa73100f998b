-- The words between start and end (put_three). Assumes nothing.
use Rattle.composing.proofs.Puts.{put_three}
use Rattle.paragraphs.specs.Paragraphs.{paragraph}
use borrow.Author.Rules.{rules}
use Rattle.paragraphs.proofs.put_paragraph.Statement.{statement}
use Rattle.paragraphs.proofs.put_paragraph.Tie as tie

returns : tie.Need-returns
unfolding paragraph
returns c = put_three c.before.before.before.before.before.before.before.before.before.before.put_paragraph_start-words.ensures c.before.before.before.before.before.before.put_words-end.ensures c.before.before.put_paragraph_end.ensures

pub put_paragraph_spec : {M : Type 1} → statement M
put_paragraph_spec =
    tie.close
    (tie.spec
    (λ c κs. search rules)
    (λ c κs. search rules)
    (λ c κs. search rules)
    (λ c. search rules)
    returns)
