-- A comment begins here, or later, or there is none. Assumes nothing.
use mathlib.Core.Path.{sym, ◌∙◌}
use native.Mathlib.Nat.{le_refl}
use native.Mathlib.Omega.{arith}
use Rattle.commenting.proofs.Comments.{comment_here, comment_later, comment_none}
use Rattle.commenting.proofs.comment_start.Goals as goal

pub returns-then-does_comment : goal.returns-then-does_comment
returns-then-does_comment c =
    let l = c.loop-i in
    (comment_here c.args.line.now l.i l.p l.invariant (omega arith) (sym c.does_comment.ensures ∙ c.if-does_comment.true), omega arith)

pub loop-i-init : goal.loop-i-init
loop-i-init c = omega arith

pub loop-i-preserved : goal.loop-i-preserved
loop-i-preserved c =
    let l = c.loop-i in
    comment_later c.args.line.now l.i l.p l.invariant (omega arith) (sym c.does_comment.ensures ∙ c.if-does_comment.false)

pub returns : goal.returns
returns c =
    let l = c.loop-i in
    (comment_none c.args.line.now l.i l.p l.invariant (omega arith), le_refl _)
