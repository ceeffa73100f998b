-- The grid, and then its table. Assumes nothing.
use native.Mathlib.Omega.{arith}
use Rattle.increment_table.specs.Increments.{increment_table}
use Rattle.increment_table.proofs.Small.{increments_small}
use borrow.Author.Rules.{rules}
use Rattle.increment_table.proofs.put_increment_table.Statement.{statement}
use Rattle.increment_table.proofs.put_increment_table.Tie as tie

put-summed-table-requires : tie.Need-put_summed_table-requires
put-summed-table-requires c κs =
    let f = c.before.before.before.before.before.before.before in
    let s = f.before.before.before.before in
    (s.requires.0, (s.requires.1.0, (omega arith, rw f.fill_increments.ensures.0 (increments_small s.args.k s.args.figures.now s.requires.0 s.requires.1.1))))

returns : tie.Need-returns
unfolding increment_table
returns c =
    let p = c.before.before in
    let f = p.before.before.before.before.before.before.before.before in
    rw (f.fill_increments.ensures.0, f.fill_increments.ensures.1) at p.put_summed_table.ensures

pub put_increment_table_spec : {M : Type 1} → statement M
put_increment_table_spec =
    tie.close
    (tie.spec
    (λ c κs. search rules)
    (λ c. search rules)
    put-summed-table-requires
    (λ c. search rules)
    returns)
