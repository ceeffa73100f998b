-- The three sections follow one another (put_three), each within the list. Assumes nothing.
use mathlib.Core.Path.{sym, ap}
use native.Mathlib.Omega.{arith}
use Rattle.composing.proofs.Puts.{put_same, put_three}
use Rattle.rows.proofs.RowPlaces.{placed}
use Rattle.csv_rows.specs.Csv.{csv_section}
use Rattle.csv_separation.specs.Separation.{separation_lines}
use Rattle.csv_rows.proofs.Fits.{given_fits, year_fits}
use borrow.Author.Rules.{rules}
use Rattle.csv_separation.proofs.put_separation.Statement.{statement}
use Rattle.csv_separation.proofs.put_separation.Tie as tie

put-section-requires : tie.Need-put_section-a-requires
put-section-requires c κs =
    let s = c.before.before.before.before.before.before.before.before in
    let at = placed s.args.places s.args.k s.requires.0 s.requires.1 in
    rw c.given_cells.ensures (given_fits _ _ s.requires.0 (omega arith))

put-section-requires-2 : tie.Need-put_section-b-requires
put-section-requires-2 c κs =
    let s = c.before.before.before.before.before.before.before.before.before.before.before.before.before.before.before.before in
    let at = placed s.args.places s.args.k s.requires.0 s.requires.1 in
    rw c.before.before.before.before.before.before.before.before.before.before.before.before.before.before.by_year-years.ensures (year_fits _ _ _ (omega arith) (omega arith))

put-section-requires-3 : tie.Need-put_section-requires
put-section-requires-3 c κs =
    let s = c.before.before.before.before.before.before.before.before.before.before.before.before.before.before.before.before.before.before.before.before.before.before.before.before in
    let at = placed s.args.places s.args.k s.requires.0 s.requires.1 in
    rw c.before.before.before.before.before.before.before.before.before.before.before.before.before.before.before.before.before.before.before.before.before.before.by_year-years.ensures (year_fits _ _ _ (omega arith) (omega arith))

returns : tie.Need-returns
unfolding separation_lines
returns c =
    let s = c.before.before.before.before.before.before.before.before.before.before.before.before.before.before.before.before.before.before.before.before.before.before.before.before.before.before.before in
    let at = placed s.args.places s.args.k s.requires.0 s.requires.1 in
    put_three
    (put_same (ap (csv_section _ _ _ _) (sym at.known.averages)) (rw c.before.before.before.before.before.before.before.before.before.before.before.before.before.before.before.before.before.before.before.given_cells.ensures at c.before.before.before.before.before.before.before.before.before.before.before.before.before.before.before.before.before.before.put_section-a.ensures))
    (rw (at.at.shares, c.before.before.before.before.before.before.before.before.before.before.before.before.before.before.before.before.before.before.before.before.before.before.before.before.before.by_year-years.ensures) at c.before.before.before.before.before.before.before.before.before.before.put_section-b.ensures)
    (rw (at.at.levels, c.before.before.before.before.before.before.before.before.before.before.before.before.before.before.before.before.before.before.before.before.before.before.before.before.before.by_year-years.ensures) at c.before.before.put_section.ensures)

pub put_separation_spec : {M : Type 1} → statement M
put_separation_spec =
    tie.close
    (tie.spec
    (λ c. search rules)
    (λ c κs. search rules)
    (λ c κs. search rules)
    put-section-requires
    put-section-requires-2
    put-section-requires-3
    (λ c. search rules)
    returns)
