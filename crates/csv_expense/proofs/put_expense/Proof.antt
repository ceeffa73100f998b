-- The four sections follow one another (put_four), each within the list. Assumes nothing.
use native.Mathlib.Omega.{arith}
use Rattle.composing.proofs.Puts.{put_four}
use Rattle.rows.proofs.RowPlaces.{placed}
use Rattle.csv_expense.specs.Expense.{expense_lines}
use Rattle.csv_rows.proofs.Fits.{alone_fits, origin_fits}
use borrow.Author.Rules.{rules}
use Rattle.csv_expense.proofs.put_expense.Statement.{statement}
use Rattle.csv_expense.proofs.put_expense.Tie as tie

put-section-requires : tie.Need-put_section-a-requires
put-section-requires c κs =
    let s = c.before.before.before.before.before.before.before.before in
    let at = placed s.args.places s.args.k s.requires.0 s.requires.1 in
    rw c.before.before.before.before.before.before.by_origin-origins.ensures (origin_fits _ _ s.requires.0 (omega arith))

put-section-requires-2 : tie.Need-put_section-b-requires
put-section-requires-2 c κs =
    let s = c.before.before.before.before.before.before.before.before.before.before.before.before.before.before.before.before in
    let at = placed s.args.places s.args.k s.requires.0 s.requires.1 in
    rw c.before.before.before.before.before.before.before.before.before.before.before.before.before.before.by_origin-origins.ensures (origin_fits _ _ s.requires.0 (omega arith))

put-section-requires-3 : tie.Need-put_section-c-requires
put-section-requires-3 c κs =
    let s = c.before.before.before.before.before.before.before.before.before.before.before.before.before.before.before.before.before.before.before.before.before.before.before.before in
    let at = placed s.args.places s.args.k s.requires.0 s.requires.1 in
    rw c.before.before.before.before.before.before.before.before.before.before.before.before.before.before.before.before.before.before.before.before.before.by_itself-single.ensures (alone_fits _ (omega arith))

put-section-requires-4 : tie.Need-put_section-requires
put-section-requires-4 c κs =
    let s = c.before.before.before.before.before.before.before.before.before.before.before.before.before.before.before.before.before.before.before.before.before.before.before.before.before.before.before.before.before.before.before.before in
    let at = placed s.args.places s.args.k s.requires.0 s.requires.1 in
    rw c.before.before.before.before.before.before.before.before.before.before.before.before.before.before.before.before.before.before.before.before.before.before.before.before.before.before.before.before.before.by_itself-single.ensures (alone_fits _ (omega arith))

returns : tie.Need-returns
unfolding expense_lines
returns c =
    let s = c.before.before.before.before.before.before.before.before.before.before.before.before.before.before.before.before.before.before.before.before.before.before.before.before.before.before.before.before.before.before.before.before.before.before.before in
    let at = placed s.args.places s.args.k s.requires.0 s.requires.1 in
    put_four
    (rw (at.at.unreported, c.before.before.before.before.before.before.before.before.before.before.before.before.before.before.before.before.before.before.before.before.before.before.before.before.before.before.before.before.before.before.before.before.before.by_origin-origins.ensures) at c.before.before.before.before.before.before.before.before.before.before.before.before.before.before.before.before.before.before.before.before.before.before.before.before.before.before.put_section-a.ensures)
    (rw (at.at.reserves, c.before.before.before.before.before.before.before.before.before.before.before.before.before.before.before.before.before.before.before.before.before.before.before.before.before.before.before.before.before.before.before.before.before.by_origin-origins.ensures) at c.before.before.before.before.before.before.before.before.before.before.before.before.before.before.before.before.before.before.put_section-b.ensures)
    (rw (at.at.reserve, c.before.before.before.before.before.before.before.before.before.before.before.before.before.before.before.before.before.before.before.before.before.before.before.before.before.before.before.before.before.before.before.before.by_itself-single.ensures) at c.before.before.before.before.before.before.before.before.before.before.put_section-c.ensures)
    (rw (at.at.ratio, c.before.before.before.before.before.before.before.before.before.before.before.before.before.before.before.before.before.before.before.before.before.before.before.before.before.before.before.before.before.before.before.before.by_itself-single.ensures) at c.before.before.put_section.ensures)

pub put_expense_spec : {M : Type 1} → statement M
put_expense_spec =
    tie.close
    (tie.spec
    (λ c κs. search rules)
    (λ c κs. search rules)
    put-section-requires
    put-section-requires-2
    put-section-requires-3
    put-section-requires-4
    (λ c. search rules)
    returns)
