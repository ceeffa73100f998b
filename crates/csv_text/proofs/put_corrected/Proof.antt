-- The ratio is within the list (alone_fits). Assumes nothing.
use native.Mathlib.Omega.{arith}
use Rattle.rows.proofs.RowPlaces.{placed}
use Rattle.csv_text.specs.Csv.{corrected_line}
use Rattle.csv_rows.proofs.Fits.{alone_fits}
use borrow.Author.Rules.{rules}
use Rattle.csv_text.proofs.put_corrected.Statement.{statement}
use Rattle.csv_text.proofs.put_corrected.Tie as tie

put-section-requires : tie.Need-put_section-requires
put-section-requires c κs =
    let places = c.before.before.before.before.before.before in
    let s = places.before.before in
    let at = placed places.starts_of-places.result s.args.k s.requires places.starts_of-places.ensures in
    rw c.by_itself.ensures (alone_fits _ (omega arith))

returns : tie.Need-returns
unfolding corrected_line
returns c =
    let places = c.before.before.before.before.before.before.before.before.before in
    let s = places.before.before in
    let at = placed places.starts_of-places.result s.args.k s.requires places.starts_of-places.ensures in
    rw (at.at.ratio, c.before.before.before.by_itself.ensures) at c.before.before.put_section.ensures

pub put_corrected_spec : {M : Type 1} → statement M
put_corrected_spec =
    tie.close
    (tie.spec
    (λ c κs. search rules)
    (λ c κs. search rules)
    put-section-requires
    (λ c. search rules)
    returns)
