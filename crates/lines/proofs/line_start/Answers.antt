-- No line feed is left to pass, one byte more, and the end of the text. Assumes nothing.
use mathlib.Core.Path.{refl, sym, ◌∙◌}
use native.Mathlib.Omega.{arith}
use borrow.Author.Tests.{eq-eqb, ne_eqb}
use lib.ListN.{get_or}
use Rattle.lines.proofs.Lines.{from_here, from_next, from_end}
use Rattle.lines.proofs.line_start.Goals as goal
use Rattle.lines.proofs.line_start.Goals.{then-b-eq10, else-b-eq10}

pub loop-i-init : goal.loop-i-init
loop-i-init c = refl

pub returns-then-left-eq0 : goal.returns-then-left-eq0
returns-then-left-eq0 c =
    let text = c.args.text.now in
    (omega arith, from_here text text c.loop-i.i c.loop-i.left (omega arith) c.if-left-eq0.true ∙ sym c.loop-i.invariant)

pub loop-i-preserved : goal.loop-i-preserved
loop-i-preserved c =
    let text = c.args.text.now in
    let i = c.loop-i.i in
    let next = c.loop-i.invariant ∙ from_next text text i c.loop-i.left (omega arith) c.if-left-eq0.false in
    elim c.if-b-eq10.branch [
      | then-b-eq10 w ↦ rw w.left-is (rw (eq-eqb (get_or text i 0) 10 w.if-b-eq10.true) at next)
      | else-b-eq10 w ↦ rw w.left-is (rw (ne_eqb (get_or text i 0) 10 w.if-b-eq10.false) at next)
    ]

pub returns : goal.returns
returns c =
    let text = c.args.text.now in
    (omega arith, from_end text text c.loop-i.i c.loop-i.left (omega arith) ∙ sym c.loop-i.invariant)
