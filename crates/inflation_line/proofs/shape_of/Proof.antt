-- The numbers, read, and put into the shape. Assumes nothing.
use mathlib.Core.Path.{◌∙◌}
use Rattle.inflation_line.specs.InflationLine.{shape_of}
use borrow.Author.Rules.{rules}
use Rattle.inflation_line.proofs.shape_of.Statement.{statement}
use Rattle.inflation_line.proofs.shape_of.Tie as tie

returns : tie.Need-returns
unfolding shape_of
returns c =
    let p = c.before in
    let y = p.before in
    let o = y.before.before in
    let r = o.before.before in
    c.shape_from.ensures
    ∙ rw (p.shape_at.ensures.0, y.size_from-year.ensures.0, y.before.cell_at-3.ensures, o.rate_of-other.ensures, o.before.cell_at-2.ensures, r.rate_of-rate.ensures, r.before.cell_at.ensures)

pub shape_of_spec : {M : Type 1} → statement M
shape_of_spec =
    tie.close
    (tie.spec
    (λ c κs. search rules)
    (λ c κs. search rules)
    (λ c κs. search rules)
    (λ c κs. search rules)
    (λ c κs. search rules)
    (λ c κs. search rules)
    (λ c κs. search rules)
    (λ c κs. search rules)
    returns)
