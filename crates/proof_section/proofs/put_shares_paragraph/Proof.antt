-- The number between its words (put_five). Assumes nothing.
use Rattle.composing.proofs.Puts.{put_five}
use Rattle.proof_section.specs.Proved.{shares_paragraph}
use borrow.Author.Rules.{rules}
use Rattle.proof_section.proofs.put_shares_paragraph.Statement.{statement}
use Rattle.proof_section.proofs.put_shares_paragraph.Tie as tie

returns : tie.Need-returns
unfolding shares_paragraph
returns c = put_five c.before.before.before.before.before.before.before.before.before.before.before.before.before.before.before.before.before.before.before.before.before.before.put_paragraph_start-words.ensures c.before.before.before.before.before.before.before.before.before.before.before.before.before.before.before.before.put_words-years.ensures c.before.before.before.before.before.before.before.before.before.before.before.before.put_decimal-rest.ensures c.before.before.before.before.before.before.put_words-end.ensures c.before.before.put_paragraph_end.ensures

pub put_shares_paragraph_spec : {M : Type 1} → statement M
put_shares_paragraph_spec =
    tie.close
    (tie.spec
    (λ c κs. search rules)
    (λ c κs. search rules)
    (λ c. search rules)
    (λ c κs. search rules)
    (λ c κs. search rules)
    (λ c κs. search rules)
    (λ c. search rules)
    returns)
