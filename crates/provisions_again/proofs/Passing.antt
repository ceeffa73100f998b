-- What a run has passed whose answer is a question's number from 11 on. Assumes nothing.
use Prim.Native.Nat.{ℕ, ◌≤◌}
use native.Mathlib.Omega.{arith}
use borrow.Author.Tests.{leb-true, leb-false}
use mathlib.Core.Path.{◌≡◌, refl}
use mathlib.Core.Bool.{Bool, true, false, cond}
use mathlib.Core.List.{List}
use lib.IntN.{ℤ}
use Rattle.rules.specs.Questions.{first_no}
use Rattle.rules.specs.Record.{figures_of}
use Rattle.rules.specs.Separation.{totals_pass, rests_pass, running_pass, levels_pass, separation_questions, separate_answer}
use Rattle.rules.specs.Tail.{first_tail_average_passes, tail_averages_pass, tail_questions}
use Rattle.rules.specs.Growth.{corrects, latest_paid_passes, divisor_passes, corrected_ratio, corrected_ratio_passes}
use Rattle.rules.specs.Results.{square_of, first_tail_average_of, plain_ratio_in, latest_paid_in, divisor_in, most_entries}
use Rattle.rules.specs.Engine.{run_answer}
use Rattle.laws.proofs.Questions.{precedes}
use Rattle.outcomes.proofs.Passed.{Late, opening, fields, cumulatives}
use Rattle.outcomes.proofs.Said.{order, development_yes, totals_yes, rests_yes, running_yes, levels_yes, tail_yes, tails_yes, ultimates_yes, ratio_yes, latest_no, latest_yes, divisor_no, divisor_yes, corrected_no}
use Rattle.reasons.proofs.Counted.{no_both}
use Rattle.provisions_again.specs.Provided.{Carried, Corrects}

-- questions 7 to 10, and 18 and 19, where each says yes
separation_yes : (s : List (List ℤ)) (k : ℕ) → totals_pass s k ≡ true → rests_pass s k ≡ true → running_pass s k ≡ true → levels_pass s k ≡ true → separate_answer s k ≡ 0
unfolding separate_answer separation_questions first_no
separation_yes s k a b c d = rw (a, b, c, d)

carried_yes : (k t : ℕ) (e : List ℕ) → first_tail_average_passes t ≡ true → tail_averages_pass k t e ≡ true → first_no (tail_questions k t e) ≡ 0
unfolding tail_questions first_no
carried_yes k t e a b = rw (a, b)

-- a question that only some years are asked says no of one that is asked it, and yes
asked_no : (a b : Bool) → cond a b true ≡ false → (a ≡ true) × (b ≡ false)
asked_no true b h = (refl, h)
asked_no false b h = absurd (no_both true refl h)

asked_yes : (a b : Bool) → a ≡ true → cond a b true ≡ true → b ≡ true
asked_yes a b e h = rw e at h

-- a number of a question after 19 in their order
pub record After (n : ℕ) : Type 0 where
  pub large : 7 ≤ n
  pub development : precedes 13 n order ≡ true
  pub totals : precedes 7 n order ≡ true
  pub rests : precedes 8 n order ≡ true
  pub running : precedes 9 n order ≡ true
  pub levels : precedes 10 n order ≡ true
  pub tail : precedes 18 n order ≡ true
  pub tails : precedes 19 n order ≡ true

pub carried : (year : ℕ) (s : List ℕ) (n : ℕ) → After n → run_answer year s most_entries ≡ n → Carried s
carried year s n a h =
    let run : Late year s = record { number = n; apart = λ q l m e. omega (arith, a.large); answer = h } in
    let f = figures_of s in
    record {
      opening = opening year s run;
      fields = fields year s run;
      cumulatives = cumulatives year s run;
      development = development_yes year s n a.development h;
      separation = separation_yes (square_of f) f.k (totals_yes year s n a.totals h) (rests_yes year s n a.rests h) (running_yes year s n a.running h) (levels_yes year s n a.levels h);
      tail = carried_yes f.k (first_tail_average_of f) f.indices (tail_yes year s n a.tail h) (tails_yes year s n a.tails h);
    }

-- and 11, 12 and 15 in a year whose ratio is corrected
pub correcting : (year : ℕ) (s : List ℕ) (n : ℕ) → After n → precedes 11 n order ≡ true → precedes 12 n order ≡ true → precedes 15 n order ≡ true → run_answer year s most_entries ≡ n
    → corrects year ≡ true → Corrects s
correcting year s n a p q r h e = record {
  carried = carried year s n a h;
  ultimates = ultimates_yes year s n p h;
  ratio = ratio_yes year s n q h;
  latest = asked_yes (corrects year) (latest_paid_passes (latest_paid_in (figures_of s))) e (latest_yes year s n r h);
}

pub after_11 : After 11
after_11 = record { large = omega arith; development = refl; totals = refl; rests = refl; running = refl; levels = refl; tail = refl; tails = refl }

pub after_16 : After 16
after_16 = record { large = omega arith; development = refl; totals = refl; rests = refl; running = refl; levels = refl; tail = refl; tails = refl }

pub after_17 : After 17
after_17 = record { large = omega arith; development = refl; totals = refl; rests = refl; running = refl; levels = refl; tail = refl; tails = refl }

-- where the answer is 15, 16 or 17 the year's ratio is corrected, and Y is below 1, the divisor is 0, or the corrected ratio is above M
pub latest_refused : (year : ℕ) (s : List ℕ) → run_answer year s most_entries ≡ 15 → (corrects year ≡ true) × (latest_paid_passes (latest_paid_in (figures_of s)) ≡ false)
latest_refused year s h = asked_no (corrects year) _ (latest_no year s h)

pub divisor_refused : (year : ℕ) (s : List ℕ) → run_answer year s most_entries ≡ 16 → (corrects year ≡ true) × (divisor_passes (divisor_in (figures_of s)) ≡ false)
divisor_refused year s h = asked_no (corrects year) _ (divisor_no year s h)

pub corrected_refused : (year : ℕ) (s : List ℕ) → run_answer year s most_entries ≡ 17
    → (corrects year ≡ true) × (corrected_ratio_passes (corrected_ratio (plain_ratio_in (figures_of s)) (divisor_in (figures_of s))) ≡ false)
corrected_refused year s h = asked_no (corrects year) _ (corrected_no year s h)

pub divisor_none : (year : ℕ) (s : List ℕ) → run_answer year s most_entries ≡ 16 → divisor_in (figures_of s) ≡ 0
unfolding divisor_passes
divisor_none year s h = omega (arith, leb-false 1 (divisor_in (figures_of s)) (divisor_refused year s h).1)

-- of a record that is refused by 17 the divisor is at least 1
pub divisor_some : (year : ℕ) (s : List ℕ) → run_answer year s most_entries ≡ 17 → 1 ≤ divisor_in (figures_of s)
unfolding divisor_passes
divisor_some year s h =
    leb-true 1 (divisor_in (figures_of s)) (asked_yes (corrects year) (divisor_passes (divisor_in (figures_of s))) (corrected_refused year s h).0 (divisor_yes year s 17 refl h))
