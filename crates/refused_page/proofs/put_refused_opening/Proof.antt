-- With the years, or without. Assumes nothing.
use native.Mathlib.Omega.{arith}
use mathlib.Core.Path.{sym, ◌∙◌}
use borrow.Author.Rules.{rules}
use Rattle.refused_page.specs.RefusedPage.{refused_opening}
use Rattle.refused_page.proofs.put_refused_opening.Statement.{statement}
use Rattle.refused_page.proofs.put_refused_opening.Tie as tie

last-year-of-requires : tie.Need-last_year_of-k-requires
last-year-of-requires c κs = c.before.before.before.before.requires.1 (sym c.before.years_known.ensures ∙ c.if-years_known.true)

put-opening-requires : tie.Need-put_opening-requires
put-opening-requires c κs = (c.before.last_year_of-k.ensures.1, c.before.before.before.before.before.before.requires.0)

put-opening-requires-2 : tie.Need-put_opening-requires-else-years_known
put-opening-requires-2 c κs = (omega arith, c.before.before.before.before.before.requires.0)

returns : tie.Need-returns-then-years_known
unfolding refused_opening
returns c =
    let t = c.before.before.before.before.before in
    rw (sym t.before.years_known.ensures ∙ t.if-years_known.true) (rw c.before.before.before.before.last_year_of-k.ensures.0 at c.before.before.put_opening.ensures)

returns-2 : tie.Need-returns-else-years_known
unfolding refused_opening
returns-2 c =
    let t = c.before.before.before.before in
    rw (sym t.before.years_known.ensures ∙ t.if-years_known.false) c.before.before.put_opening-else-years_known.ensures

pub put_refused_opening_spec : {M : Type 1} → statement M
put_refused_opening_spec =
    tie.close
    (tie.spec (λ c κs. search rules) last-year-of-requires put-opening-requires put-opening-requires-2 (λ c. search rules) returns (λ c. search rules) returns-2)
