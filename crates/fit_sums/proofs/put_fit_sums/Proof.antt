-- The two numbers between words (put_five). Assumes nothing.
use mir.Facts.{to_z-of_z}
use Rattle.composing.proofs.Puts.{put_five}
use Rattle.fit_sums.specs.FitSums.{fit_sums}
use borrow.Author.Rules.{rules}
use Rattle.fit_sums.proofs.put_fit_sums.Statement.{statement}
use Rattle.fit_sums.proofs.put_fit_sums.Tie as tie

returns : tie.Need-returns
unfolding fit_sums
returns c =
    let e = c.before.before in
    let d = e.before.before.before.before.before.before.before.before in
    let m = d.before.before.before.before in
    let b = m.before.before.before.before.before.before.before.before in
    let a = b.before.before.before.before in
    let s = a.before.before.before.before.before.before.before in
    put_five a.put_either-a.ensures (rw (to_z-of_z s.ranges.averages) at b.put_hundredths-b.ensures) m.put_either-c.ensures (rw (to_z-of_z s.ranges.gaps) at d.put_hundredths-d.ensures)
    e.put_either.ensures

pub put_fit_sums_spec : {M : Type 1} → statement M
put_fit_sums_spec =
    tie.close
    (tie.spec
    (λ c κs. search rules)
    (λ c κs. search rules)
    (λ c κs. search rules)
    (λ c κs. search rules)
    (λ c κs. search rules)
    (λ c. search rules)
    returns)
