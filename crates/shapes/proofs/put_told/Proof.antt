-- The label and the value follow one another (put_four). Assumes nothing.
use mir.Facts.{to_z-of_z}
use Rattle.composing.proofs.Puts.{put_four}
use Rattle.shapes.specs.Shapes.{told}
use borrow.Author.Rules.{rules}
use Rattle.shapes.proofs.put_told.Statement.{statement}
use Rattle.shapes.proofs.put_told.Tie as tie

returns : tie.Need-returns
unfolding told
returns c =
    put_four c.before.before.before.before.before.before.before.before.before.before.before.before.before.before.before.before.before.before.put_numbered-a.ensures c.before.before.before.before.before.before.before.before.before.before.before.before.put_bytes-b.ensures (rw (to_z-of_z c.before.before.before.before.before.before.before.before.before.before.before.before.before.before.before.before.before.before.before.before.before.before.before.ranges.z) at c.before.before.before.before.before.before.before.before.put_spaced-c.ensures) c.before.before.put_bytes.ensures

pub put_told_spec : {M : Type 1} → statement M
put_told_spec =
    tie.close
    (tie.spec
    (λ c κs. search rules)
    (λ c κs. search rules)
    (λ c κs. search rules)
    (λ c κs. search rules)
    (λ c. search rules)
    returns)
