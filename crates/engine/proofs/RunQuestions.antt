-- What the third demand asks of an accepted run. Assumes nothing.
use Prim.Native.Nat.{ℕ}
use mathlib.Core.Path.{◌≡◌, refl}
use Rattle.rules.specs.Lists.{every}
use Rattle.rules.specs.Questions.{first_no}
use Rattle.rules.specs.Record.{Figures}
use Rattle.rules.specs.Separation.{separation_questions}
use Rattle.rules.specs.Tail.{tail_questions}
use Rattle.rules.specs.Growth.{growth_questions}
use Rattle.rules.specs.Engine.{development_questions, completion_questions, ratio_questions, correction_questions, completed_ladder_questions, last_questions, later_questions, figure_questions}
use Rattle.laws.proofs.Questions.{yes_said}
use Rattle.results.proofs.Demanded.{Answered}

pub answered : (year : ℕ) (f : Figures) → first_no (figure_questions year f) ≡ 0 → Answered year f
unfolding figure_questions development_questions separation_questions later_questions tail_questions last_questions completion_questions ratio_questions correction_questions growth_questions completed_ladder_questions every
answered year f h =
    let qs = figure_questions year f in
    record { totals = yes_said 7 qs refl h; rests = yes_said 8 qs refl h; running = yes_said 9 qs refl h; ratio = yes_said 12 qs refl h; corrected = yes_said 17 qs refl h }
