-- What the tail leaves: the tail payments of the figures. Assumes nothing.
use Prim.Native.Nat.{ℕ, ◌+◌, ◌<◌}
use native.Mathlib.Omega.{arith}
use mathlib.Core.Path.{◌≡◌, refl, ◌∙◌}
use mathlib.Core.List.{List}
use lib.ListN.{replicate}
use lib.Seq.{sets}
use lib.Dec.{leb}
use Rattle.rules.specs.Lists.{up_to, every}
use Rattle.rules.specs.Questions.{first_no}
use Rattle.rules.specs.Record.{Figures}
use Rattle.rules.specs.Tail.{tail_average, tail_payment, tail_payments, most_tail_average, tail_averages_pass, tail_questions}
use Rattle.rules.specs.Results.{first_tail_average_of, tails_in}
use Rattle.laws.proofs.Lists.{length_up_to}
use Rattle.laws.proofs.Joined.{sets_filled}
use Rattle.laws.proofs.Questions.{yes_said}
use Rattle.entries.proofs.Leading.{leading_all}
use Rattle.tail.specs.Tailable.{years_carried, tails_carried}
use Rattle.reserving.specs.Stages.{Tailed}

-- the tail payments, where questions 18 and 19 have said yes
pub tails_are : (f : Figures) → f.k < 16 → (z : List ℕ) → z ≡ sets (replicate 16 0) 0 (tails_carried f.k f.exposures (first_tail_average_of f) f.indices)
    → first_no (tail_questions f.k (first_tail_average_of f) f.indices) ≡ 0 → Tailed f z
unfolding tails_in tail_payments tail_questions tails_carried years_carried tail_averages_pass every
tails_are f few z e passed =
    let qs = tail_questions f.k (first_tail_average_of f) f.indices in
    let one = tail_payment f.exposures (first_tail_average_of f) f.indices in
    let all = leading_all (λ i. leb (tail_average (first_tail_average_of f) f.indices i) most_tail_average) (f.k + 1) (yes_said 19 qs refl passed) in
    record { passed = passed; tails = e ∙ rw (yes_said 18 qs refl passed, all) (sets_filled 16 0 (up_to one (f.k + 1)) (omega (arith, length_up_to one (f.k + 1)))) }
