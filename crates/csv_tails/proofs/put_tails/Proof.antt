-- The section is within the list (origin_fits). Assumes nothing.
use native.Mathlib.Omega.{arith}
use Rattle.rows.proofs.RowPlaces.{placed}
use Rattle.csv_tails.specs.Tails.{tail_lines}
use Rattle.csv_rows.proofs.Fits.{origin_fits}
use borrow.Author.Rules.{rules}
use Rattle.csv_tails.proofs.put_tails.Statement.{statement}
use Rattle.csv_tails.proofs.put_tails.Tie as tie

put-section-requires : tie.Need-put_section-requires
put-section-requires c κs =
    let s = c.before.before.before.before.before.before.before in
    let at = placed s.args.places s.args.k s.requires.0 s.requires.1 in
    rw c.by_origin.ensures (origin_fits _ _ s.requires.0 (omega arith))

returns : tie.Need-returns
unfolding tail_lines
returns c =
    let s = c.before.before.before.before.before.before.before.before.before.before in
    let at = placed s.args.places s.args.k s.requires.0 s.requires.1 in
    rw (at.at.tails, c.before.before.before.by_origin.ensures) at c.before.before.put_section.ensures

pub put_tails_spec : {M : Type 1} → statement M
put_tails_spec =
    tie.close
    (tie.spec
    (λ c κs. search rules)
    put-section-requires
    (λ c. search rules)
    returns)
