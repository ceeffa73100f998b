-- The totals, and then the table. Assumes nothing.
use native.Mathlib.Omega.{arith}
use Rattle.placing.specs.Placing.{totalled}
use Rattle.triangle_tables.specs.Tables.{summed_table}
use Rattle.triangle_tables.proofs.Rooms.{room}
use borrow.Author.Rules.{rules}
use Rattle.triangle_tables.proofs.put_summed_table.Statement.{statement}
use Rattle.triangle_tables.proofs.put_summed_table.Tie as tie

fill-totals-requires : tie.Need-fill_totals-requires
fill-totals-requires c κs =
    let s = c.before.before.before.before.before in
    (room s.args.k s.args.c s.requires.0 s.requires.1.1.0, (omega arith, (omega arith, λ p h. s.requires.1.1.1 p)))

returns : tie.Need-returns
unfolding summed_table totalled
returns c =
    let p = c.before.before in
    let t = p.before.before in
    rw (t.fill_totals.ensures.0, t.fill_totals.ensures.1) at p.put_triangle_table.ensures

pub put_summed_table_spec : {M : Type 1} → statement M
put_summed_table_spec =
    tie.close
    (tie.spec (λ c. search rules) fill-totals-requires (λ c κs. search rules) (λ c. search rules) returns)
