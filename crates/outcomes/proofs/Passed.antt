-- What a run in a valuation year has passed that none of the first six questions refuses: questions 1 to 6. Assumes nothing.
use Prim.Native.Nat.{ℕ, ◌≤◌}
use native.Mathlib.Omega.{arith}
use borrow.Author.Tests.{leb-true}
use mathlib.Core.Path.{◌≡◌, refl}
use mathlib.Core.Bool.{Bool, true, false, cond}
use mathlib.Core.List.{List, [], ◌∷◌, ◌++◌}
use lib.Dec.{leb}
use lib.ListN.{length}
use Rattle.rules.specs.Packing.{Fit}
use Rattle.rules.specs.Lists.{every, between}
use Rattle.rules.specs.Questions.{first_no}
use Rattle.rules.specs.Record.{last_year_of, figures_of}
use Rattle.rules.specs.Reading.{opening_questions, field_questions}
use Rattle.rules.specs.Triangle.{cumulatives_pass}
use Rattle.rules.specs.Separation.{separation_questions}
use Rattle.rules.specs.Results.{square_of, result_count, most_entries}
use Rattle.rules.specs.Engine.{development_questions, later_questions, figure_questions, holds_list, questions, run_answer}
use Rattle.laws.proofs.Lists.{both_left, both_right}
use Rattle.laws.proofs.Questions.{yes_said}
use Rattle.reading.specs.Reading.{Sound}
use Rattle.reading.proofs.FiguresRead.{sound_figures}
use Rattle.opening.proofs.Opened.{years_known_lem, opening_yes}

-- the answer is the number of none of the first six questions
pub record Late (year : ℕ) (s : List ℕ) : Type 0 where
  pub number : ℕ
  pub apart : (q : ℕ) → 1 ≤ q → q ≤ 6 → q ≡ number → ⊥
  pub answer : run_answer year s most_entries ≡ number

abbrev pub accepted : (year : ℕ) (s : List ℕ) → run_answer year s most_entries ≡ 0 → Late year s
accepted year s h = record { number = 0; apart = λ q l m e. omega arith; answer = h }

abbrev pub answered : (year : ℕ) (s : List ℕ) (n : ℕ) → 7 ≤ n → run_answer year s most_entries ≡ n → Late year s
answered year s n l h = record { number = n; apart = λ q a b e. omega arith; answer = h }

-- whether questions are among the first six
abbrev early : List (ℕ × Bool) → Bool
early qs = every (λ q. between 1 6 q.0) qs

-- such questions have all said yes, and the others give the answer
others : (n : ℕ) → ((q : ℕ) → 1 ≤ q → q ≤ 6 → q ≡ n → ⊥) → (qs rs : List (ℕ × Bool)) → early qs ≡ true → first_no (qs ++ rs) ≡ n
    → (first_no qs ≡ 0) × (first_no rs ≡ n)
unfolding first_no every
others n apart [] rs o h = (refl, h)
others n apart (q ∷ qs) rs o h =
    let here = both_left (between 1 6 q.0) (early qs) o in
    let least = leb-true 1 q.0 (both_left (leb 1 q.0) (leb q.0 6) here) in
    let most = leb-true q.0 6 (both_right (leb 1 q.0) (leb q.0 6) here) in
    go q.1 (apart q.0 least most) h (others n apart qs rs (both_right (between 1 6 q.0) (early qs) o))
  where
    go : (b : Bool) → (q.0 ≡ n → ⊥) → cond b (first_no (qs ++ rs)) q.0 ≡ n → (first_no (qs ++ rs) ≡ n → (first_no qs ≡ 0) × (first_no rs ≡ n))
        → (cond b (first_no qs) q.0 ≡ 0) × (first_no rs ≡ n)
    go true other e after = after e
    go false other e after = absurd (other e)

module _ (year : ℕ) (s : List ℕ) (run : Late year s) where
  first : (first_no (opening_questions s) ≡ 0) × (first_no ((3, holds_list s most_entries) ∷ (field_questions s ++ figure_questions year (figures_of s))) ≡ run.number)
  unfolding run_answer questions opening_questions every
  first = others run.number run.apart (opening_questions s) _ refl run.answer

  after_room : (first_no ((3, holds_list s most_entries) ∷ []) ≡ 0) × (first_no (field_questions s ++ figure_questions year (figures_of s)) ≡ run.number)
  unfolding every
  after_room = others run.number run.apart ((3, holds_list s most_entries) ∷ []) _ refl first.1

  later : (first_no (field_questions s) ≡ 0) × (first_no (figure_questions year (figures_of s)) ≡ run.number)
  unfolding field_questions every
  later = others run.number run.apart (field_questions s) _ refl after_room.1

  pub opening : first_no (opening_questions s) ≡ 0
  opening = first.0

  pub fields : first_no (field_questions s) ≡ 0
  fields = later.0

  -- there is a first byte
  pub some : 1 ≤ length s
  some = (years_known_lem s (opening_yes s opening).0).0

  pub room : result_count (figures_of s).k ≤ most_entries
  unfolding holds_list figures_of every
  room = leb-true (result_count (last_year_of s)) most_entries (yes_said 3 ((3, holds_list s most_entries) ∷ []) refl after_room.0)

  six : (first_no ((6, cumulatives_pass (figures_of s).k (figures_of s).increments) ∷ []) ≡ 0)
      × (first_no (development_questions (figures_of s) ++ (separation_questions (square_of (figures_of s)) (figures_of s).k ++ later_questions year (figures_of s))) ≡ run.number)
  unfolding figure_questions every
  six = others run.number run.apart ((6, cumulatives_pass (figures_of s).k (figures_of s).increments) ∷ []) _ refl later.1

  pub cumulatives : cumulatives_pass (figures_of s).k (figures_of s).increments ≡ true
  unfolding every
  cumulatives = yes_said 6 ((6, cumulatives_pass (figures_of s).k (figures_of s).increments) ∷ []) refl six.0

  pub sound : Fit 8 s → Sound (figures_of s)
  sound h = sound_figures s h opening fields

  -- the questions about the figures give the answer
  pub figures_answer : first_no (figure_questions year (figures_of s)) ≡ run.number
  figures_answer = later.1
