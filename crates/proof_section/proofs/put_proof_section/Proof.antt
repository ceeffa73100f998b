-- Its paragraphs and its table (put_four). Assumes nothing.
use Rattle.composing.proofs.Puts.{put_four}
use Rattle.proof_section.specs.Proved.{proof_section}
use borrow.Author.Rules.{rules}
use Rattle.proof_section.proofs.put_proof_section.Statement.{statement}
use Rattle.proof_section.proofs.put_proof_section.Tie as tie

returns : tie.Need-returns
unfolding proof_section
returns c = put_four c.before.before.before.before.before.before.before.before.before.before.before.before.before.before.put_section_start-start.ensures c.before.before.before.before.before.before.before.before.before.before.put_paragraphs-table.ensures c.before.before.before.before.before.before.put_limits_table-end.ensures c.before.before.put_section_end.ensures

pub put_proof_section_spec : {M : Type 1} → statement M
put_proof_section_spec =
    tie.close
    (tie.spec
    (λ c κs. search rules)
    (λ c κs. search rules)
    (λ c κs. search rules)
    (λ c κs. search rules)
    (λ c. search rules)
    returns)
