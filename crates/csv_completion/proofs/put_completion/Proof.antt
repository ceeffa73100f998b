-- The four sections follow one another (put_four), each within the list. Assumes nothing.
use native.Mathlib.Omega.{arith}
use Rattle.composing.proofs.Puts.{put_four, put_length}
use Rattle.rows.proofs.RowPlaces.{placed}
use Rattle.csv_completion.specs.Completion.{completion_lines}
use Rattle.csv_rows.proofs.Fits.{alone_fits, future_fits, origin_fits, year_fits}
use borrow.Author.Rules.{rules}
use Rattle.csv_completion.proofs.put_completion.Statement.{statement}
use Rattle.csv_completion.proofs.put_completion.Tie as tie

put-section-requires : tie.Need-put_section-a-requires
put-section-requires c κs =
    let s = c.before.before.before.before.before.before.before in
    let at = placed s.args.places s.args.k s.requires.0 s.requires.1 in
    rw c.by_year.ensures (year_fits _ _ _ (omega arith) (omega arith))

put-section-requires-2 : tie.Need-put_section-b-requires
put-section-requires-2 c κs =
    let s = c.before.before.before.before.before.before.before.before.before.before.before.before.before.before.before.before in
    let at = placed s.args.places s.args.k s.requires.0 s.requires.1 in
    rw c.future_cells.ensures (future_fits _ _ s.requires.0 (omega arith))

put-section-requires-3 : tie.Need-put_section-c-requires
put-section-requires-3 c κs =
    let s = c.before.before.before.before.before.before.before.before.before.before.before.before.before.before.before.before.before.before.before.before.before.before.before.before.before in
    let at = placed s.args.places s.args.k s.requires.0 s.requires.1 in
    rw c.by_origin.ensures (origin_fits _ _ s.requires.0 (omega arith))

put-section-requires-4 : tie.Need-put_section-requires
put-section-requires-4 c κs =
    let s = c.before.before.before.before.before.before.before.before.before.before.before.before.before.before.before.before.before.before.before.before.before.before.before.before.before.before.before.before.before.before.before.before.before.before in
    let at = placed s.args.places s.args.k s.requires.0 s.requires.1 in
    rw c.by_itself.ensures (alone_fits _ (omega arith))

returns : tie.Need-returns
unfolding completion_lines
returns c =
    let s = c.before.before.before.before.before.before.before.before.before.before.before.before.before.before.before.before.before.before.before.before.before.before.before.before.before.before.before.before.before.before.before.before.before.before.before.before.before in
    let at = placed s.args.places s.args.k s.requires.0 s.requires.1 in
    put_four
    (rw (at.at.ahead, c.before.before.before.before.before.before.before.before.before.before.before.before.before.before.before.before.before.before.before.before.before.before.before.before.before.before.before.before.before.before.by_year.ensures) at c.before.before.before.before.before.before.before.before.before.before.before.before.before.before.before.before.before.before.before.before.before.before.before.before.before.before.before.before.before.put_section-a.ensures)
    (rw (at.at.payments, c.before.before.before.before.before.before.before.before.before.before.before.before.before.before.before.before.before.before.before.before.before.future_cells.ensures) at c.before.before.before.before.before.before.before.before.before.before.before.before.before.before.before.before.before.before.before.before.put_section-b.ensures)
    (rw (at.at.provisions, c.before.before.before.before.before.before.before.before.before.before.before.before.by_origin.ensures) at c.before.before.before.before.before.before.before.before.before.before.before.put_section-c.ensures)
    (rw (at.at.provision, c.before.before.before.by_itself.ensures) at c.before.before.put_section.ensures)

same_length : tie.Need-shape_of-out
same_length c = put_length (returns c)

pub put_completion_spec : {M : Type 1} → statement M
put_completion_spec =
    tie.close
    (tie.spec
    (λ c. search rules)
    (λ c κs. search rules)
    put-section-requires
    (λ c κs. search rules)
    put-section-requires-2
    (λ c κs. search rules)
    put-section-requires-3
    (λ c κs. search rules)
    put-section-requires-4
    same_length
    returns)
