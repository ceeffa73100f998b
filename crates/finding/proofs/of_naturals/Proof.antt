-- Each figure is below 2^63, so that it is the same number signed (to_z_pos). Assumes nothing.
use borrow.Author.Rules.{rules}
use mir.Syntax.{w64}
use mir.Facts.{to_z_pos}
use Rattle.finding.proofs.of_naturals.Statement.{statement}
use Rattle.finding.proofs.of_naturals.Tie as tie

returns : tie.Need-returns
returns c =
    let low = c.requires in
    rw (to_z_pos w64 {n = c.args.one} low.0, to_z_pos w64 {n = c.args.two} low.1.0, to_z_pos w64 {n = c.args.three} low.1.1)

pub of_naturals_spec : {M : Type 1} → statement M
of_naturals_spec =
    tie.close
    (tie.spec
    (λ c. search rules)
    (λ c. search rules)
    (λ c. search rules)
    returns)
