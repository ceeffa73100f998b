-- The two sections follow one another (put_append), each within the list. Assumes nothing.
use native.Mathlib.Omega.{arith}
use Rattle.composing.proofs.Puts.{put_append}
use Rattle.rows.proofs.RowPlaces.{placed}
use Rattle.csv_text.specs.Csv.{ladder_lines}
use Rattle.csv_rows.proofs.Fits.{future_fits, year_fits}
use borrow.Author.Rules.{rules}
use Rattle.csv_text.proofs.put_ladder.Statement.{statement}
use Rattle.csv_text.proofs.put_ladder.Tie as tie

put-section-requires : tie.Need-put_section-a-requires
put-section-requires c κs =
    let s = c.before.before.before.before.before.before.before in
    let at = placed s.args.places s.args.k s.requires.0 s.requires.1 in
    rw c.by_year.ensures (year_fits _ _ _ (omega arith) (omega arith))

put-section-requires-2 : tie.Need-put_section-requires
put-section-requires-2 c κs =
    let s = c.before.before.before.before.before.before.before.before.before.before.before.before.before.before.before.before in
    let at = placed s.args.places s.args.k s.requires.0 s.requires.1 in
    rw c.future_cells.ensures (future_fits _ _ s.requires.0 (omega arith))

returns : tie.Need-returns
unfolding ladder_lines
returns c =
    let s = c.before.before.before.before.before.before.before.before.before.before.before.before.before.before.before.before.before.before.before in
    let at = placed s.args.places s.args.k s.requires.0 s.requires.1 in
    put_append
    (rw (at.at.factors, c.before.before.before.before.before.before.before.before.before.before.before.before.by_year.ensures) at c.before.before.before.before.before.before.before.before.before.before.before.put_section-a.ensures)
    (rw (at.at.completed, c.before.before.before.future_cells.ensures) at c.before.before.put_section.ensures)

pub put_ladder_spec : {M : Type 1} → statement M
put_ladder_spec =
    tie.close
    (tie.spec
    (λ c κs. search rules)
    put-section-requires
    (λ c κs. search rules)
    put-section-requires-2
    (λ c. search rules)
    returns)
