-- With a class or without one (put_three). Assumes nothing.
use native.Mathlib.Omega.{arith}
use borrow.Author.Tests.{lt-ltb, le-ltb}
use Rattle.composing.proofs.Puts.{put_three}
use Rattle.table_cells.specs.Cells.{cell_start}
use borrow.Author.Rules.{rules}
use Rattle.table_cells.proofs.put_cell_start.Statement.{statement}
use Rattle.table_cells.proofs.put_cell_start.Tie as tie

returns : tie.Need-returns-then-mark-lt3
unfolding cell_start
returns c = rw (lt-ltb c.before.before.before.before.before.before.before.before.args.mark 3 (omega arith)) c.before.before.put_bytes.ensures

returns-2 : tie.Need-returns-else-mark-lt3
unfolding cell_start
returns-2 c =
    rw (le-ltb c.before.before.before.before.before.before.before.before.before.before.before.before.before.before.before.before.before.before.args.mark 3 (omega arith))
    (put_three c.before.before.before.before.before.before.before.before.before.before.before.before.put_bytes-name.ensures c.before.before.before.before.before.before.before.before.put_class-end.ensures c.before.before.put_bytes-else-mark-lt3.ensures)

pub put_cell_start_spec : {M : Type 1} → statement M
put_cell_start_spec =
    tie.close
    (tie.spec
    (λ c κs. search rules)
    (λ c κs. search rules)
    (λ c κs. search rules)
    (λ c κs. search rules)
    (λ c. search rules)
    returns
    (λ c. search rules)
    returns-2)
