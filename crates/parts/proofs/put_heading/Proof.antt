-- The words between what stands before and after them (put_three). Assumes nothing.
use Rattle.composing.proofs.Puts.{put_three}
use Rattle.parts.specs.Parts.{heading}
use borrow.Author.Rules.{rules}
use Rattle.parts.proofs.put_heading.Statement.{statement}
use Rattle.parts.proofs.put_heading.Tie as tie

returns : tie.Need-returns
unfolding heading
returns c = put_three c.before.before.before.before.before.before.before.before.before.before.before.before.before.before.put_either-words.ensures c.before.before.before.before.before.before.before.before.before.before.put_bytes-end.ensures c.before.before.put_either.ensures

pub put_heading_spec : {M : Type 1} → statement M
put_heading_spec =
    tie.close
    (tie.spec
    (λ c κs. search rules)
    (λ c κs. search rules)
    (λ c κs. search rules)
    (λ c. search rules)
    returns)
