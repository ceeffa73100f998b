-- The three lines follow one another (put_three). Assumes nothing.
use Rattle.composing.proofs.Puts.{put_three}
use Rattle.csv_correction.specs.Correction.{correction_lines}
use borrow.Author.Rules.{rules}
use Rattle.csv_correction.proofs.put_correction.Statement.{statement}
use Rattle.csv_correction.proofs.put_correction.Tie as tie

returns : tie.Need-returns
unfolding correction_lines
returns c =
    put_three
    c.before.before.before.before.before.before.before.before.before.before.before.before.before.before.before.before.before.before.put_beside-a.ensures
    c.before.before.before.before.before.before.before.before.before.before.put_beside-b.ensures
    c.before.before.put_beside.ensures

pub put_correction_spec : {M : Type 1} → statement M
put_correction_spec =
    tie.close
    (tie.spec
    (λ c κs. search rules)
    (λ c κs. search rules)
    (λ c κs. search rules)
    (λ c. search rules)
    returns)
