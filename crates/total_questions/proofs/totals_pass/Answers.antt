-- None of the totals behind is below zero, their sizes are stored, and `sum` is the sum of the columns. Assumes nothing.
use mathlib.Core.Path.{◌≡◌, sym}
use mathlib.Core.Bool.{false, false≢true}
use native.Mathlib.Omega.{arith}
use borrow.Author.Rules.{rules}
use lib.IntN.{pos}
use lib.ListN.{get_or}
use mir.Syntax.{w64}
use mir.Val.{SFits}
use Rattle.total_questions.proofs.Passing.{totals_passing, TotalsDone, start, column_fails, diagonal_fails, more, last}
use Rattle.total_questions.proofs.totals_pass.Goals.{then-a-lt0-via-then-a-lt0, then-a-lt0-via-else-a-lt0+then-b-lt0}
use Rattle.total_questions.proofs.totals_pass.Goals as goal

pub loop-i-init : goal.loop-i-init
loop-i-init c = start c.args.columns.now c.args.diagonals.now c.args.n c.args.v.now c.args.d.now c.requires.1.1.0 c.requires.1.1.1

pub returns-then-a-lt0 : goal.returns-then-a-lt0
returns-then-a-lt0 c =
    let l = c.loop-i in
    let columns = c.args.columns.now in
    let diagonals = c.args.diagonals.now in
    let a : SFits w64 (get_or columns l.i (pos 0)) = search rules in
    let b : SFits w64 (get_or diagonals l.i (pos 0)) = search rules in
    let no : totals_passing columns diagonals c.args.n ≡ false =
    elim c.then-a-lt0.branch [
      | then-a-lt0-via-then-a-lt0 w ↦ column_fails columns diagonals c.args.n l.v l.d l.i (omega arith) a w.if-a-lt0.true
      | then-a-lt0-via-else-a-lt0+then-b-lt0 w ↦ diagonal_fails columns diagonals c.args.n l.v l.d l.i (omega arith) b w.if-b-lt0.true
    ] in
    (sym no, λ e. absurd (false≢true e))

pub loop-i-preserved : goal.loop-i-preserved
loop-i-preserved c =
    let l = c.loop-i in
    let columns = c.args.columns.now in
    let diagonals = c.args.diagonals.now in
    let a : SFits w64 (get_or columns l.i (pos 0)) = search rules in
    let b : SFits w64 (get_or diagonals l.i (pos 0)) = search rules in
    more columns diagonals c.args.n l.v l.d l.sum l.i l.invariant (omega arith) c.requires.0 a c.if-a-lt0.false b c.if-b-lt0.false (c.requires.1.0 l.i (omega arith))

pub returns : goal.returns
returns c =
    let l = c.loop-i in
    let done : TotalsDone c.args.columns.now c.args.diagonals.now c.args.n l.v l.d l.sum c.args.n
    = let e : l.i ≡ c.args.n = omega arith in rw e at l.invariant in
    (last c.args.columns.now c.args.diagonals.now c.args.n l.v l.d l.sum done, λ e. (done.v_sizes, done.d_sizes))
