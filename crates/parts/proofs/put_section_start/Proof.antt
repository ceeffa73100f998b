-- The section's element and its heading (put_append). Assumes nothing.
use Rattle.composing.proofs.Puts.{put_append}
use Rattle.parts.specs.Parts.{section_head}
use borrow.Author.Rules.{rules}
use Rattle.parts.proofs.put_section_start.Statement.{statement}
use Rattle.parts.proofs.put_section_start.Tie as tie

returns : tie.Need-returns
unfolding section_head
returns c = put_append c.before.before.before.before.before.before.put_only-head.ensures c.before.before.put_heading.ensures

pub put_section_start_spec : {M : Type 1} → statement M
put_section_start_spec =
    tie.close
    (tie.spec
    (λ c κs. search rules)
    (λ c κs. search rules)
    (λ c. search rules)
    returns)
