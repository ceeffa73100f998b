-- The loop's invariant: the cells that were met passed. Assumes nothing.
use mathlib.Core.Path.{◌≡◌, refl, sym, ap, ◌∙◌}
use mathlib.Core.Bool.{Bool}
use mathlib.Core.List.{List}
use Prim.Native.Nat.{ℕ, ◌+◌, ◌≤◌, ◌<◌}
use native.Mathlib.Omega.{arith}
use lib.ListN.{length}
use mir.Facts.{to_z-of_z}
use mir.Syntax.{w64}
use mir.Val.{to_z}
use Rattle.rules.specs.Lists.{every}
use Rattle.scanning.specs.Parts.{before, fails}
use Rattle.separating.specs.Separators.{from_cell}
use Rattle.cells.specs.Cells.{cells_by, cells_of, first_cell_of, passes}
use Rattle.cells.proofs.CellWalk.{walk_shorter, cells_are, lead_here, lead_more, lead_over}
use borrow.Author.Rules.{rules}
use Rattle.cells.proofs.leading.Statement.{statement}
use Rattle.cells.proofs.leading.Tie as tie

abbrev invariant-loop : tie.invariant-loop-rest
invariant-loop line ranged least most s rest₀ count₀ rest count =
    let p = passes ranged (to_z w64 least) (to_z w64 most) in
    (before (fails p) (cells_by s rest₀) ≡ count + before (fails p) (cells_by s rest))
    × ((every p (cells_by s rest₀) ≡ every p (cells_by s rest)) × (count + length rest ≤ length rest₀))

abbrev decreases-loop : tie.decreases-loop-rest
decreases-loop line ranged least most s rest₀ count₀ rest count = length rest

-- the test
abbrev test : tie.At-loop-rest invariant-loop decreases-loop → List ℕ → Bool
test l = passes l.before.before.before.before.args.ranged l.before.before.before.before.args.least l.before.before.before.before.args.most

-- the cells before count passed, and the others are left
left : (l : tie.At-loop-rest invariant-loop decreases-loop)
    → (before (fails (test l)) (cells_of l.before.before.before.before.args.line.now) ≡ l.loop-rest.count + before (fails (test l)) (cells_by l.before.before.decider_of-s.result l.loop-rest.rest.now))
    × (every (test l) (cells_of l.before.before.before.before.args.line.now) ≡ every (test l) (cells_by l.before.before.decider_of-s.result l.loop-rest.rest.now))
left l =
    let all = cells_are l.before.before.before.before.args.line.now l.before.before.decider_of-s.result l.before.cells_text-rest.result.now l.before.before.decider_of-s.ensures l.before.cells_text-rest.ensures in
    let inv = rw (to_z-of_z l.before.before.before.before.ranges.least, to_z-of_z l.before.before.before.before.ranges.most) at l.loop-rest.invariant in
    (ap (before (fails (test l))) all ∙ inv.0, ap (every (test l)) all ∙ inv.1.0)

-- a turn: a cell is there, and what the test said of it
there : (d : tie.After-does_pass invariant-loop decreases-loop) → 0 < length (from_cell d.before.before.before.before.before.before.decider_of-s.result d.before.before.before.before.loop-rest.rest.now)
there d = rw d.before.before.before.from_cell.ensures at d.before.before.loop-rest-test.true

said : (d : tie.After-does_pass invariant-loop decreases-loop) → test d.before.before.before.before (first_cell_of d.before.before.before.before.before.before.decider_of-s.result d.before.before.before.before.loop-rest.rest.now) ≡ d.does_pass.result
said d = sym (rw (d.before.first_cell.ensures, to_z-of_z d.before.before.before.before.before.before.before.before.ranges.least, to_z-of_z d.before.before.before.before.before.before.before.before.ranges.most) at d.does_pass.ensures)

loop-holds : tie.Need-loop-rest-init invariant-loop decreases-loop
loop-holds c = (omega arith, (refl, omega arith))

returns : tie.Need-returns-then-not-does_pass invariant-loop decreases-loop
returns c =
    let d = c.before in
    let l = d.before.before.before.before in
    let here = lead_here (test l) d.before.before.before.before.before.before.decider_of-s.result l.loop-rest.rest.now (there d) (said d ∙ c.if-not-does_pass.true) in
    (omega (arith, (left l).0, here.0), (sym ((left l).1 ∙ here.1), omega arith))

loop-less : tie.Need-loop-rest-smaller invariant-loop decreases-loop
loop-less c =
    let d = c.before.before in
    rw c.after_cell-next.ensures (walk_shorter d.before.before.before.before.before.before.decider_of-s.result d.before.before.before.before.loop-rest.rest.now (there d))

loop-again : tie.Need-loop-rest-preserved invariant-loop decreases-loop
loop-again c =
    let d = c.before.before in
    let l = d.before.before.before.before in
    let s = d.before.before.before.before.before.before.decider_of-s.result in
    let more = lead_more (test l) s l.loop-rest.rest.now (there d) (said d ∙ c.before.if-not-does_pass.false) in
    let inv = rw (to_z-of_z l.before.before.before.before.ranges.least, to_z-of_z l.before.before.before.before.ranges.most) at l.loop-rest.invariant in
    rw (c.after_cell-next.ensures, to_z-of_z l.before.before.before.before.ranges.least, to_z-of_z l.before.before.before.before.ranges.most)
    (omega (arith, more.0, inv.0), (inv.1.0 ∙ more.1, omega (arith, walk_shorter s l.loop-rest.rest.now (there d))))

returns-2 : tie.Need-returns invariant-loop decreases-loop
returns-2 c =
    let l = c.before.before in
    let over = lead_over (test l) l.before.before.decider_of-s.result l.loop-rest.rest.now (rw c.before.from_cell.ensures at c.loop-rest-test.false) in
    (omega (arith, (left l).0, over.0), (sym ((left l).1 ∙ over.1), omega arith))

pub leading_spec : {M : Type 1} → statement M
leading_spec =
    tie.close
    (tie.spec
    invariant-loop
    decreases-loop
    (λ c κs. search rules)
    (λ c κs. search rules)
    loop-holds
    (λ c κs. search rules)
    (λ c κs. search rules)
    (λ c κs. search rules)
    returns
    (λ c. search rules)
    (λ c κs. search rules)
    loop-less
    loop-again
    returns-2)
