-- The loop's invariant: the cells that were met, and those that are left, are all of them. Assumes nothing.
use mathlib.Core.Path.{◌≡◌, sym, ap, ◌∙◌}
use Prim.Native.Nat.{◌+◌, ◌≤◌, ◌<◌}
use native.Mathlib.Omega.{arith}
use lib.ListN.{length}
use Rattle.separating.specs.Separators.{from_cell}
use Rattle.cells.specs.Cells.{cells_by}
use Rattle.cells.proofs.CellWalk.{walk_shorter, walk_more, walk_over, cells_are}
use borrow.Author.Rules.{rules}
use Rattle.cells.proofs.cell_count.Statement.{statement}
use Rattle.cells.proofs.cell_count.Tie as tie

abbrev invariant-loop : tie.invariant-loop-rest
invariant-loop line s rest₀ count₀ rest count = (length (cells_by s rest₀) ≡ count + length (cells_by s rest)) × (count + length rest ≤ length rest₀)

abbrev decreases-loop : tie.decreases-loop-rest
decreases-loop line s rest₀ count₀ rest count = length rest

loop-holds : tie.Need-loop-rest-init invariant-loop decreases-loop
loop-holds c = (omega arith, omega arith)

-- a cell is there
there : (d : tie.After-from_cell invariant-loop decreases-loop) → 0 < length d.from_cell.result.now
    → 0 < length (from_cell d.before.before.before.decider_of-s.result d.before.loop-rest.rest.now)
there d h = rw d.from_cell.ensures at h

loop-less : tie.Need-loop-rest-smaller invariant-loop decreases-loop
loop-less c =
    let d = c.before.before in
    rw c.after_cell-next.ensures (walk_shorter d.before.before.before.decider_of-s.result d.before.loop-rest.rest.now (there d c.before.loop-rest-test.true))

loop-again : tie.Need-loop-rest-preserved invariant-loop decreases-loop
loop-again c =
    let d = c.before.before in
    let s = d.before.before.before.decider_of-s.result in
    let xs = d.before.loop-rest.rest.now in
    let here = there d c.before.loop-rest-test.true in
    rw c.after_cell-next.ensures (omega (arith, d.before.loop-rest.invariant.0, ap length (walk_more s xs here)), omega (arith, walk_shorter s xs here, d.before.loop-rest.invariant.1))

returns : tie.Need-returns invariant-loop decreases-loop
returns c =
    let d = c.before in
    let l = d.before in
    let s = l.before.before.decider_of-s.result in
    let all = cells_are l.before.before.before.before.args.line.now s l.before.cells_text-rest.result.now l.before.before.decider_of-s.ensures l.before.cells_text-rest.ensures in
    let over = walk_over s l.loop-rest.rest.now (rw d.from_cell.ensures at c.loop-rest-test.false) in
    (sym (ap length all ∙ omega (arith, l.loop-rest.invariant.0, ap length over)), omega (arith, l.loop-rest.invariant.1))

pub cell_count_spec : {M : Type 1} → statement M
cell_count_spec =
    tie.close
    (tie.spec
    invariant-loop
    decreases-loop
    (λ c κs. search rules)
    (λ c κs. search rules)
    loop-holds
    (λ c κs. search rules)
    (λ c. search rules)
    (λ c κs. search rules)
    loop-less
    loop-again
    returns)
