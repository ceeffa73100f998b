-- One page's numeral or the other's. Assumes nothing.
use mir.Facts.{to_z-of_z}
use Rattle.parts.specs.Parts.{either}
use Rattle.fit_sums.specs.FitSums.{hundredths}
use borrow.Author.Rules.{rules}
use Rattle.fit_sums.proofs.put_hundredths.Statement.{statement}
use Rattle.fit_sums.proofs.put_hundredths.Tie as tie

returns : tie.Need-returns-then-html
unfolding hundredths either
returns c =
    let p = c.before.before in
    let s = p.before.before.before.before in
    rw p.before.before.if-html.true (rw (to_z-of_z s.ranges.z) at p.put_number.ensures)

returns-2 : tie.Need-returns-else-html
unfolding hundredths either
returns-2 c =
    let p = c.before.before in
    let s = p.before.before.before.before in
    rw p.before.before.if-html.false (rw (to_z-of_z s.ranges.z) at p.put_fixed.ensures)

pub put_hundredths_spec : {M : Type 1} → statement M
put_hundredths_spec = tie.close (tie.spec (λ c κs. search rules) (λ c κs. search rules) (λ c. search rules) returns (λ c. search rules) returns-2)
