use Rattle.corners.proofs.Corners.{CornersDone}
use Rattle.corners.proofs.fill_corners.Given as goal

abbrev pub invariant-loop-h : goal.invariant-loop-h
invariant-loop-h l = CornersDone l.columns l.diagonals l.k l.totals l.t l.h
