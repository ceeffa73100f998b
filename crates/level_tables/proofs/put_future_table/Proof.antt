-- The future levels are placed on a blank grid, whose numbers can be added up (future_totalling). Assumes nothing.
use native.Mathlib.Omega.{arith}
use Rattle.placing.specs.Placing.{totalled}
use Rattle.level_tables.specs.Levels.{future_words, future_grid, future_table}
use Rattle.level_tables.proofs.Future.{future_totalling}
use borrow.Author.Rules.{rules}
use Rattle.level_tables.proofs.put_future_table.Statement.{statement}
use Rattle.level_tables.proofs.put_future_table.Tie as tie

fill-totals-requires : tie.Need-fill_totals-requires
fill-totals-requires c κs =
    let s = c.before.before.before.before.before.before in
    let small = future_totalling s.args.k s.args.figures.now s.requires.0 s.requires.1.1 in
    (omega arith, (omega arith, (omega arith, λ p h. rw c.before.before.place_ahead.ensures.0 (small p))))

returns : tie.Need-returns
unfolding future_table future_words future_grid totalled
returns c =
    let t = c.before.before.before.before.before.before.before.before.before.before.before.before in
    let p = c.before.before.before.before.before.before.before.before.before.before.before.before.before.before.before in
    rw (t.fill_totals.ensures.0, t.fill_totals.ensures.1, p.place_ahead.ensures.0, p.place_ahead.ensures.1) at c.before.before.put_table.ensures

pub put_future_table_spec : {M : Type 1} → statement M
put_future_table_spec =
    tie.close
    (tie.spec
    (λ c κs. search rules)
    (λ c. search rules)
    fill-totals-requires
    (λ c. search rules)
    (λ c. search rules)
    (λ c. search rules)
    (λ c κs. search rules)
    (λ c. search rules)
    returns)
