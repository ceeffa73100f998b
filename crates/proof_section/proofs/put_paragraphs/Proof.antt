-- One after another (put_five). Assumes nothing.
use Rattle.composing.proofs.Puts.{put_five}
use Rattle.proof_section.specs.Proved.{proved_paragraphs}
use borrow.Author.Rules.{rules}
use Rattle.proof_section.proofs.put_paragraphs.Statement.{statement}
use Rattle.proof_section.proofs.put_paragraphs.Tie as tie

returns : tie.Need-returns
unfolding proved_paragraphs
returns c = put_five c.before.before.before.before.before.before.before.before.before.before.before.before.before.before.before.before.before.before.before.before.before.before.before.before.put_paragraph-shares.ensures c.before.before.before.before.before.before.before.before.before.before.before.before.before.before.before.before.before.before.before.before.put_shares_paragraph-amounts.ensures c.before.before.before.before.before.before.before.before.before.before.before.before.before.before.put_paragraph-roundings.ensures c.before.before.before.before.before.before.before.before.put_paragraph-range.ensures c.before.before.put_paragraph.ensures

pub put_paragraphs_spec : {M : Type 1} → statement M
put_paragraphs_spec =
    tie.close
    (tie.spec
    (λ c κs. search rules)
    (λ c κs. search rules)
    (λ c κs. search rules)
    (λ c κs. search rules)
    (λ c κs. search rules)
    (λ c. search rules)
    returns)
