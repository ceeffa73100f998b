-- The three numbers are entries of the single figures (to_z-of_z), the last by its size. Assumes nothing.
use lib.IntN.{pos}
use lib.ListN.{get_or}
use mir.Facts.{to_z-of_z}
use mir.Syntax.{w64}
use Rattle.accepted_page.specs.AcceptedPage.{fit_of}
use borrow.Author.Rules.{rules, sfits_of}
use Rattle.accepted_page.proofs.put_fit.Statement.{statement}
use Rattle.accepted_page.proofs.put_fit.Tie as tie

returns : tie.Need-returns
unfolding fit_of
returns c =
    let p = c.before.before.before.before.before.before in
    let z = p.before.before.before.args.singles.now in
    let averages = to_z-of_z {w = w64} {z = get_or z 9 (pos 0)} (sfits_of c.before.before.before.before.put_fit_section-arg-2-1.given) in
    let gaps = to_z-of_z {w = w64} {z = get_or z 24 (pos 0)} (sfits_of c.before.before.before.put_fit_section-arg-3-1.given) in
    let lost = to_z-of_z {w = w64} {z = get_or z 25 (pos 0)} (sfits_of p.before.size_of-arg-1.given) in
    rw (averages, gaps, p.size_of-lost.ensures, lost) at c.before.before.put_fit_section.ensures

pub put_fit_spec : {M : Type 1} → statement M
put_fit_spec =
    tie.close
    (tie.spec (λ c. search rules) (λ c κs. search rules) (λ c. search rules) (λ c. search rules) (λ c κs. search rules) (λ c. search rules) returns)
