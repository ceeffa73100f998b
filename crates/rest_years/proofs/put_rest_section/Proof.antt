-- The totals of the square are read again, and T_h is formed from them (corners_are). Assumes nothing.
use borrow.Author.Rules.{rules}
use Rattle.triangle_findings.proofs.Totals.{columns_small, diagonals_small}
use Rattle.rest_years.specs.RestYears.{rest_section}
use Rattle.rest_years.proofs.Tables.{corners_are, corners_small}
use Rattle.rest_years.proofs.put_rest_section.Statement.{statement}
use Rattle.rest_years.proofs.put_rest_section.Tie as tie

fill-corner-totals-requires : tie.Need-fill_corner_totals-requires
fill-corner-totals-requires c κs =
    let read = c.before.before.before.totals_again-k.ensures in
    let few = rw read.0 at read.1.0 in
    (columns_small _ _ few _ _ read.1.1, diagonals_small _ _ few _ _ read.1.1)

put-year-section-requires : tie.Need-put_year_section-requires
put-year-section-requires c κs =
    let read = c.before.before.before.before.before.before.before.totals_again-k.ensures in
    (read.1.0, corners_small _ _ (rw read.0 at read.1.0) _ _ read.1.1 _ c.before.before.before.fill_corner_totals.ensures)

returns : tie.Need-returns
unfolding rest_section
returns c =
    let read = c.before.before.before.before.before.before.before.before.before.before.totals_again-k.ensures in
    let corners = corners_are _ _ (rw read.0 at read.1.0) _ _ read.1.1 _ c.before.before.before.before.before.before.fill_corner_totals.ensures in
    rw (corners, read.1.1.totals.0, read.0) at c.before.before.put_year_section.ensures

pub put_rest_section_spec : {M : Type 1} → statement M
put_rest_section_spec =
    tie.close
    (tie.spec
    (λ c κs. search rules)
    fill-corner-totals-requires
    put-year-section-requires
    (λ c. search rules)
    returns)
