-- Questions 18 and 19 in their order. Assumes nothing.
use mathlib.Core.Path.{◌≡◌, refl, sym, ◌∙◌}
use mathlib.Core.Bool.{Bool, true, false, cond}
use mathlib.Core.List.{List}
use Prim.Native.Nat.{ℕ, ◌≤◌, ◌<◌}
use native.Mathlib.Omega.{arith}
use borrow.Author.Tests.{le-leb, lt-leb}
use lib.Seq.{sets}
use Rattle.rules.specs.Lists.{up_to}
use Rattle.rules.specs.Questions.{first_no}
use Rattle.rules.specs.Separation.{billion}
use Rattle.rules.specs.Tail.{tail_payment, first_tail_average_passes, tail_averages_pass, tail_questions}
use Rattle.tail.specs.Tailable.{years_carried, tails_carried}
use Rattle.tail.proofs.carry_tail.Goals as goal

module _ (k : ℕ) (n : List ℕ) (t : ℕ) (e out : List ℕ) where
  -- question 18 says no
  above : billion < t → (18 ≡ first_no (tail_questions k t e)) × (out ≡ sets out 0 (tails_carried k n t e))
  unfolding first_no tail_questions first_tail_average_passes tails_carried
  above h = rw (lt-leb t billion h) (refl, refl)

  -- question 18 says yes, and question 19 what is said
  asked : t ≤ billion → {tails : List ℕ} (b : Bool) → b ≡ tail_averages_pass k t e → tails ≡ sets out 0 (up_to (tail_payment n t e) (years_carried k t e)) → (d : Bool) → b ≡ d
      → (cond d 0 19 ≡ first_no (tail_questions k t e)) × (tails ≡ sets out 0 (tails_carried k n t e))
  unfolding first_no tail_questions first_tail_average_passes tails_carried
  asked h b q19 carried d is = (rw (le-leb t billion h, sym q19 ∙ is), rw (le-leb t billion h) carried)

pub first_tail_average-first-requires : goal.first_tail_average-first-requires
first_tail_average-first-requires c = (c.requires.tail, (c.requires.claims, c.requires.years.exposures 0))

pub returns-then-first-gt-BILLION : goal.returns-then-first-gt-BILLION
returns-then-first-gt-BILLION c =
    rw (← c.first_tail_average-first.ensures) (above c.args.k c.args.exposures.now c.first_tail_average-first.result c.args.indices.now c.args.tails.now c.if-first-gt-BILLION.true)

pub returns-then-not-fill_tails : goal.returns-then-not-fill_tails
returns-then-not-fill_tails c =
    rw (← c.first_tail_average-first.ensures)
    (asked c.args.k c.args.exposures.now c.first_tail_average-first.result c.args.indices.now c.args.tails.now (omega arith) _ c.fill_tails.ensures.0 c.fill_tails.ensures.1 false c.if-not-fill_tails.true)

pub returns : goal.returns
returns c =
    rw (← c.first_tail_average-first.ensures)
    (asked c.args.k c.args.exposures.now c.first_tail_average-first.result c.args.indices.now c.args.tails.now (omega arith) _ c.fill_tails.ensures.0 c.fill_tails.ensures.1 true c.if-not-fill_tails.false)
