-- Document 01's record and today's without a tail are answered the same, and get the same list, then zeros. Assumes nothing.
use Prim.Native.Nat.{ℕ, ◌+◌, ◌-◌}
use native.Mathlib.Omega.{arith}
use borrow.Author.Tests.{leb-true, le-leb}
use mathlib.Core.Path.{◌≡◌, refl, sym, ap, ◌∙◌}
use mathlib.Core.Bool.{Bool}
use mathlib.Core.List.{List, ◌∷◌, [], ◌++◌}
use lib.Dec.{leb}
use lib.IntN.{ℤ, pos}
use lib.ListN.{length, replicate}
use Rattle.rules.specs.Lists.{padded, every}
use Rattle.rules.specs.Questions.{first_no}
use Rattle.rules.specs.Record.{Figures, last_year_of, figures_of}
use Rattle.rules.specs.Reading.{opening_questions, field_questions}
use Rattle.rules.specs.Results.{result_count, results_of}
use Rattle.rules.specs.Engine.{figure_questions, holds_list, questions, run_answer, run_into}
use Rattle.laws.proofs.Lists.{same_answer}
use Rattle.laws.proofs.Questions.{later_answer}
use Rattle.listing.proofs.Counts.{results_count}
use Rattle.no_tail.proofs.Document01.{row01, figures_of01, result_count01, results_of01, opening_questions01, field_questions01, figure_questions01, run_answer01, Without, SameRun}
use Rattle.no_tail.proofs.NothingLeft.{questions_none, results_none}
use Rattle.no_tail.proofs.LastIndex.{with_indices, questions_same, results_same}
use Rattle.no_tail.proofs.SameFields.{figures_same, indices_same, fields_same}

module _ (e : ℕ) (t s : List ℕ) (w : Without e t s) where
  abbrev k : ℕ
  k = last_year_of t

  -- document 01's figures, and today's indices
  abbrev old : Figures
  old = figures_of01 t

  abbrev indices : List ℕ
  indices = padded 16 0 (row01 t 3 ++ (e ∷ []))

  -- the questions from 6 on
  later_same : (year : ℕ) → first_no (figure_questions year (figures_of s)) ≡ first_no (figure_questions01 year (figures_of01 t))
  unfolding figures_of01
  later_same year = rw (figures_same e t s w) (questions_none year (with_indices indices old) refl ∙ ap first_no (questions_same year old indices (indices_same e t s w)))

  list_same : (year : ℕ) → results_of year (figures_of s) ≡ results_of01 year (figures_of01 t) ++ replicate (last_year_of t + 1) (pos 0)
  unfolding figures_of01
  list_same year =
      rw (figures_same e t s w)
      (results_none year (with_indices indices old) refl ∙ ap (λ (l : List ℤ). l ++ replicate (k + 1) (pos 0)) (results_same year old indices (indices_same e t s w)))

  -- question 3
  holds_same : (m : ℕ) → holds_list s m ≡ leb (result_count01 (last_year_of t)) (m - (last_year_of t + 1))
  unfolding holds_list result_count01
  holds_same m =
      let more = k + 1 in
      let count = results_count k in
      rw w.years
      (same_answer (leb (result_count k) m) (leb (result_count01 k) (m - more))
      (λ h. le-leb (result_count01 k) (m - more) (omega (arith, leb-true (result_count k) m h)))
      (λ h. le-leb (result_count k) m (omega (arith, leb-true (result_count01 k) (m - more) h))))

  -- all questions
  answer_same : (year m : ℕ) → run_answer year s m ≡ run_answer01 year t (m - (last_year_of t + 1))
  unfolding run_answer questions run_answer01 opening_questions opening_questions01 field_questions01 first_no every
  answer_same year m =
      let others : List (ℕ × Bool) = (3, holds_list s m) ∷ (field_questions s ++ figure_questions year (figures_of s)) in
      let others01 : List (ℕ × Bool) = (3, leb (result_count01 k) (m - (k + 1))) ∷ (field_questions01 t ++ figure_questions01 year (figures_of01 t)) in
      later_answer (opening_questions s) others refl w.opened
      ∙ rw (holds_same m, fields_same e t s w, later_same year) (sym (later_answer (opening_questions01 t) others01 refl w.opened01))

  pub same_run : SameRun t s
  unfolding run_into
  same_run = record { answer = answer_same; results = λ year out. rw (answer_same year (length out), list_same year) refl }
