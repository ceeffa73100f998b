use Rattle.total_questions.proofs.Passing.{TotalsDone}
use Rattle.total_questions.proofs.totals_pass.Given as goal

abbrev pub invariant-loop-i : goal.invariant-loop-i
invariant-loop-i l = TotalsDone l.columns l.diagonals l.n l.v l.d l.sum l.i
