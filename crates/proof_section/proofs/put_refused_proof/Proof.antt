-- Its paragraph (put_three). Assumes nothing.
use Rattle.composing.proofs.Puts.{put_three}
use Rattle.proof_section.specs.Proved.{refused_proof}
use borrow.Author.Rules.{rules}
use Rattle.proof_section.proofs.put_refused_proof.Statement.{statement}
use Rattle.proof_section.proofs.put_refused_proof.Tie as tie

returns : tie.Need-returns
unfolding refused_proof
returns c = put_three c.before.before.before.before.before.before.before.before.before.before.before.before.put_section_start-start.ensures c.before.before.before.before.before.before.put_paragraph-end.ensures c.before.before.put_section_end.ensures

pub put_refused_proof_spec : {M : Type 1} → statement M
put_refused_proof_spec =
    tie.close
    (tie.spec
    (λ c κs. search rules)
    (λ c κs. search rules)
    (λ c κs. search rules)
    (λ c. search rules)
    returns)
