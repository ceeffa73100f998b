-- The grid, and then its table. Assumes nothing.
use Rattle.ladder_section.specs.Ladder.{ladder_table}
use borrow.Author.Rules.{rules}
use Rattle.ladder_section.proofs.put_ladder_table.Statement.{statement}
use Rattle.ladder_section.proofs.put_ladder_table.Tie as tie

returns : tie.Need-returns
unfolding ladder_table
returns c =
    let p = c.before.before in
    let f = p.before.before.before.before.before.before.before.before in
    rw (f.fill_ladder.ensures.0, f.fill_ladder.ensures.1) at p.put_triangle_table.ensures

pub put_ladder_table_spec : {M : Type 1} → statement M
put_ladder_table_spec =
    tie.close
    (tie.spec
    (λ c κs. search rules)
    (λ c. search rules)
    (λ c κs. search rules)
    (λ c. search rules)
    returns)
