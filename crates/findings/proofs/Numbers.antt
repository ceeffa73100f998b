-- Whatever number from 1 on a run answers, it is that of a question, and not of question 3: what is so of each other number is so of the answer. Assumes nothing.
use Prim.Native.Nat.{ℕ, ◌≤◌}
use native.Mathlib.Omega.{arith}
use native.Mathlib.Decide.{ℕ_discrete}
use borrow.Author.Tests.{ne_eqb, le-leb}
use mathlib.Core.Path.{◌≡◌, refl, sym, ◌∙◌}
use mathlib.Core.List.{List}
use Rattle.rules.specs.Lists.{every}
use Rattle.rules.specs.Packing.{Fit}
use Rattle.rules.specs.Record.{last_year_of}
use Rattle.rules.specs.Reading.{opening_questions, field_questions}
use Rattle.rules.specs.Separation.{separation_questions}
use Rattle.rules.specs.Tail.{tail_questions}
use Rattle.rules.specs.Growth.{growth_questions}
use Rattle.rules.specs.Results.{result_count, most_entries}
use Rattle.rules.specs.Engine.{holds_list, development_questions, completion_questions, ratio_questions, correction_questions, completed_ladder_questions, last_questions, later_questions, figure_questions, questions, run_answer}
use Rattle.laws.proofs.Questions.{other_answer, no_said}
use Rattle.laws.proofs.TriangleRows.{cells_most}
use Rattle.reasons.proofs.Counted.{no_both}
use Rattle.listing.proofs.Counts.{results_count}
use Rattle.layout.proofs.RecordSizes.{years_lt}

module _ (year : ℕ) (s : List ℕ) where
  abbrev pub Run : ℕ → Type 0
  Run n = run_answer year s most_entries ≡ n

  -- question 3 is not the answer: the buffer holds every list
  never_3 : Fit 8 s → Run 3 → ⊥
  unfolding run_answer questions opening_questions field_questions figure_questions development_questions separation_questions later_questions tail_questions last_questions completion_questions ratio_questions correction_questions growth_questions completed_ladder_questions holds_list every
  never_3 bytes run =
      let few = years_lt s bytes in
      let k = last_year_of s in
      let room = le-leb (result_count k) most_entries (omega (arith, results_count k, cells_most k few)) in
      no_both (holds_list s most_entries) room (no_said 3 (omega arith) (questions year s most_entries) refl run)

  -- and no other number is
  never_other : (n : ℕ) → 1 ≤ n → (n ≡ 1 → ⊥) → (n ≡ 2 → ⊥) → (n ≡ 3 → ⊥) → (n ≡ 4 → ⊥) → (n ≡ 5 → ⊥) → (n ≡ 6 → ⊥) → (n ≡ 13 → ⊥) → (n ≡ 7 → ⊥) → (n ≡ 8 → ⊥) → (n ≡ 9 → ⊥) → (n ≡ 10 → ⊥) → (n ≡ 18 → ⊥) → (n ≡ 19 → ⊥) → (n ≡ 11 → ⊥) → (n ≡ 12 → ⊥) → (n ≡ 15 → ⊥) → (n ≡ 16 → ⊥) → (n ≡ 17 → ⊥) → (n ≡ 14 → ⊥) → Run n → ⊥
  unfolding run_answer questions opening_questions field_questions figure_questions development_questions separation_questions later_questions tail_questions last_questions completion_questions ratio_questions correction_questions growth_questions completed_ladder_questions every
  never_other n l a1 a2 a3 a4 a5 a6 a13 a7 a8 a9 a10 a18 a19 a11 a12 a15 a16 a17 a14 run =
      other_answer n l (questions year s most_entries)
      (rw (ne_eqb 1 n (λ e. a1 (sym e)), ne_eqb 2 n (λ e. a2 (sym e)), ne_eqb 3 n (λ e. a3 (sym e)), ne_eqb 4 n (λ e. a4 (sym e)), ne_eqb 5 n (λ e. a5 (sym e)), ne_eqb 6 n (λ e. a6 (sym e)), ne_eqb 13 n (λ e. a13 (sym e)), ne_eqb 7 n (λ e. a7 (sym e)), ne_eqb 8 n (λ e. a8 (sym e)), ne_eqb 9 n (λ e. a9 (sym e)), ne_eqb 10 n (λ e. a10 (sym e)), ne_eqb 18 n (λ e. a18 (sym e)), ne_eqb 19 n (λ e. a19 (sym e)), ne_eqb 11 n (λ e. a11 (sym e)), ne_eqb 12 n (λ e. a12 (sym e)), ne_eqb 15 n (λ e. a15 (sym e)), ne_eqb 16 n (λ e. a16 (sym e)), ne_eqb 17 n (λ e. a17 (sym e)), ne_eqb 14 n (λ e. a14 (sym e)))) run

  -- what is so of each number that its question is answered with
  pub by_number : (P : ℕ → Type 0) → Fit 8 s → (Run 1 → P 1) → (Run 2 → P 2) → (Run 4 → P 4) → (Run 5 → P 5) → (Run 6 → P 6) → (Run 13 → P 13) → (Run 7 → P 7) → (Run 8 → P 8) → (Run 9 → P 9) → (Run 10 → P 10) → (Run 18 → P 18) → (Run 19 → P 19) → (Run 11 → P 11) → (Run 12 → P 12) → (Run 15 → P 15) → (Run 16 → P 16) → (Run 17 → P 17) → (Run 14 → P 14) → (n : ℕ) → 1 ≤ n → Run n → P n
  by_number P bytes p1 p2 p4 p5 p6 p13 p7 p8 p9 p10 p18 p19 p11 p12 p15 p16 p17 p14 n l run = step_1 (ℕ_discrete n 1)
    where
      step_14 : (n ≡ 1 → ⊥) → (n ≡ 2 → ⊥) → (n ≡ 3 → ⊥) → (n ≡ 4 → ⊥) → (n ≡ 5 → ⊥) → (n ≡ 6 → ⊥) → (n ≡ 13 → ⊥) → (n ≡ 7 → ⊥) → (n ≡ 8 → ⊥) → (n ≡ 9 → ⊥) → (n ≡ 10 → ⊥) → (n ≡ 18 → ⊥) → (n ≡ 19 → ⊥) → (n ≡ 11 → ⊥) → (n ≡ 12 → ⊥) → (n ≡ 15 → ⊥) → (n ≡ 16 → ⊥) → (n ≡ 17 → ⊥) → Dec (n ≡ 14) → P n
      step_14 a1 a2 a3 a4 a5 a6 a13 a7 a8 a9 a10 a18 a19 a11 a12 a15 a16 a17 (yes e) = rw e (p14 (run ∙ e))
      step_14 a1 a2 a3 a4 a5 a6 a13 a7 a8 a9 a10 a18 a19 a11 a12 a15 a16 a17 (no a14) = absurd (never_other n l a1 a2 a3 a4 a5 a6 a13 a7 a8 a9 a10 a18 a19 a11 a12 a15 a16 a17 a14 run)

      step_17 : (n ≡ 1 → ⊥) → (n ≡ 2 → ⊥) → (n ≡ 3 → ⊥) → (n ≡ 4 → ⊥) → (n ≡ 5 → ⊥) → (n ≡ 6 → ⊥) → (n ≡ 13 → ⊥) → (n ≡ 7 → ⊥) → (n ≡ 8 → ⊥) → (n ≡ 9 → ⊥) → (n ≡ 10 → ⊥) → (n ≡ 18 → ⊥) → (n ≡ 19 → ⊥) → (n ≡ 11 → ⊥) → (n ≡ 12 → ⊥) → (n ≡ 15 → ⊥) → (n ≡ 16 → ⊥) → Dec (n ≡ 17) → P n
      step_17 a1 a2 a3 a4 a5 a6 a13 a7 a8 a9 a10 a18 a19 a11 a12 a15 a16 (yes e) = rw e (p17 (run ∙ e))
      step_17 a1 a2 a3 a4 a5 a6 a13 a7 a8 a9 a10 a18 a19 a11 a12 a15 a16 (no a17) = step_14 a1 a2 a3 a4 a5 a6 a13 a7 a8 a9 a10 a18 a19 a11 a12 a15 a16 a17 (ℕ_discrete n 14)

      step_16 : (n ≡ 1 → ⊥) → (n ≡ 2 → ⊥) → (n ≡ 3 → ⊥) → (n ≡ 4 → ⊥) → (n ≡ 5 → ⊥) → (n ≡ 6 → ⊥) → (n ≡ 13 → ⊥) → (n ≡ 7 → ⊥) → (n ≡ 8 → ⊥) → (n ≡ 9 → ⊥) → (n ≡ 10 → ⊥) → (n ≡ 18 → ⊥) → (n ≡ 19 → ⊥) → (n ≡ 11 → ⊥) → (n ≡ 12 → ⊥) → (n ≡ 15 → ⊥) → Dec (n ≡ 16) → P n
      step_16 a1 a2 a3 a4 a5 a6 a13 a7 a8 a9 a10 a18 a19 a11 a12 a15 (yes e) = rw e (p16 (run ∙ e))
      step_16 a1 a2 a3 a4 a5 a6 a13 a7 a8 a9 a10 a18 a19 a11 a12 a15 (no a16) = step_17 a1 a2 a3 a4 a5 a6 a13 a7 a8 a9 a10 a18 a19 a11 a12 a15 a16 (ℕ_discrete n 17)

      step_15 : (n ≡ 1 → ⊥) → (n ≡ 2 → ⊥) → (n ≡ 3 → ⊥) → (n ≡ 4 → ⊥) → (n ≡ 5 → ⊥) → (n ≡ 6 → ⊥) → (n ≡ 13 → ⊥) → (n ≡ 7 → ⊥) → (n ≡ 8 → ⊥) → (n ≡ 9 → ⊥) → (n ≡ 10 → ⊥) → (n ≡ 18 → ⊥) → (n ≡ 19 → ⊥) → (n ≡ 11 → ⊥) → (n ≡ 12 → ⊥) → Dec (n ≡ 15) → P n
      step_15 a1 a2 a3 a4 a5 a6 a13 a7 a8 a9 a10 a18 a19 a11 a12 (yes e) = rw e (p15 (run ∙ e))
      step_15 a1 a2 a3 a4 a5 a6 a13 a7 a8 a9 a10 a18 a19 a11 a12 (no a15) = step_16 a1 a2 a3 a4 a5 a6 a13 a7 a8 a9 a10 a18 a19 a11 a12 a15 (ℕ_discrete n 16)

      step_12 : (n ≡ 1 → ⊥) → (n ≡ 2 → ⊥) → (n ≡ 3 → ⊥) → (n ≡ 4 → ⊥) → (n ≡ 5 → ⊥) → (n ≡ 6 → ⊥) → (n ≡ 13 → ⊥) → (n ≡ 7 → ⊥) → (n ≡ 8 → ⊥) → (n ≡ 9 → ⊥) → (n ≡ 10 → ⊥) → (n ≡ 18 → ⊥) → (n ≡ 19 → ⊥) → (n ≡ 11 → ⊥) → Dec (n ≡ 12) → P n
      step_12 a1 a2 a3 a4 a5 a6 a13 a7 a8 a9 a10 a18 a19 a11 (yes e) = rw e (p12 (run ∙ e))
      step_12 a1 a2 a3 a4 a5 a6 a13 a7 a8 a9 a10 a18 a19 a11 (no a12) = step_15 a1 a2 a3 a4 a5 a6 a13 a7 a8 a9 a10 a18 a19 a11 a12 (ℕ_discrete n 15)

      step_11 : (n ≡ 1 → ⊥) → (n ≡ 2 → ⊥) → (n ≡ 3 → ⊥) → (n ≡ 4 → ⊥) → (n ≡ 5 → ⊥) → (n ≡ 6 → ⊥) → (n ≡ 13 → ⊥) → (n ≡ 7 → ⊥) → (n ≡ 8 → ⊥) → (n ≡ 9 → ⊥) → (n ≡ 10 → ⊥) → (n ≡ 18 → ⊥) → (n ≡ 19 → ⊥) → Dec (n ≡ 11) → P n
      step_11 a1 a2 a3 a4 a5 a6 a13 a7 a8 a9 a10 a18 a19 (yes e) = rw e (p11 (run ∙ e))
      step_11 a1 a2 a3 a4 a5 a6 a13 a7 a8 a9 a10 a18 a19 (no a11) = step_12 a1 a2 a3 a4 a5 a6 a13 a7 a8 a9 a10 a18 a19 a11 (ℕ_discrete n 12)

      step_19 : (n ≡ 1 → ⊥) → (n ≡ 2 → ⊥) → (n ≡ 3 → ⊥) → (n ≡ 4 → ⊥) → (n ≡ 5 → ⊥) → (n ≡ 6 → ⊥) → (n ≡ 13 → ⊥) → (n ≡ 7 → ⊥) → (n ≡ 8 → ⊥) → (n ≡ 9 → ⊥) → (n ≡ 10 → ⊥) → (n ≡ 18 → ⊥) → Dec (n ≡ 19) → P n
      step_19 a1 a2 a3 a4 a5 a6 a13 a7 a8 a9 a10 a18 (yes e) = rw e (p19 (run ∙ e))
      step_19 a1 a2 a3 a4 a5 a6 a13 a7 a8 a9 a10 a18 (no a19) = step_11 a1 a2 a3 a4 a5 a6 a13 a7 a8 a9 a10 a18 a19 (ℕ_discrete n 11)

      step_18 : (n ≡ 1 → ⊥) → (n ≡ 2 → ⊥) → (n ≡ 3 → ⊥) → (n ≡ 4 → ⊥) → (n ≡ 5 → ⊥) → (n ≡ 6 → ⊥) → (n ≡ 13 → ⊥) → (n ≡ 7 → ⊥) → (n ≡ 8 → ⊥) → (n ≡ 9 → ⊥) → (n ≡ 10 → ⊥) → Dec (n ≡ 18) → P n
      step_18 a1 a2 a3 a4 a5 a6 a13 a7 a8 a9 a10 (yes e) = rw e (p18 (run ∙ e))
      step_18 a1 a2 a3 a4 a5 a6 a13 a7 a8 a9 a10 (no a18) = step_19 a1 a2 a3 a4 a5 a6 a13 a7 a8 a9 a10 a18 (ℕ_discrete n 19)

      step_10 : (n ≡ 1 → ⊥) → (n ≡ 2 → ⊥) → (n ≡ 3 → ⊥) → (n ≡ 4 → ⊥) → (n ≡ 5 → ⊥) → (n ≡ 6 → ⊥) → (n ≡ 13 → ⊥) → (n ≡ 7 → ⊥) → (n ≡ 8 → ⊥) → (n ≡ 9 → ⊥) → Dec (n ≡ 10) → P n
      step_10 a1 a2 a3 a4 a5 a6 a13 a7 a8 a9 (yes e) = rw e (p10 (run ∙ e))
      step_10 a1 a2 a3 a4 a5 a6 a13 a7 a8 a9 (no a10) = step_18 a1 a2 a3 a4 a5 a6 a13 a7 a8 a9 a10 (ℕ_discrete n 18)

      step_9 : (n ≡ 1 → ⊥) → (n ≡ 2 → ⊥) → (n ≡ 3 → ⊥) → (n ≡ 4 → ⊥) → (n ≡ 5 → ⊥) → (n ≡ 6 → ⊥) → (n ≡ 13 → ⊥) → (n ≡ 7 → ⊥) → (n ≡ 8 → ⊥) → Dec (n ≡ 9) → P n
      step_9 a1 a2 a3 a4 a5 a6 a13 a7 a8 (yes e) = rw e (p9 (run ∙ e))
      step_9 a1 a2 a3 a4 a5 a6 a13 a7 a8 (no a9) = step_10 a1 a2 a3 a4 a5 a6 a13 a7 a8 a9 (ℕ_discrete n 10)

      step_8 : (n ≡ 1 → ⊥) → (n ≡ 2 → ⊥) → (n ≡ 3 → ⊥) → (n ≡ 4 → ⊥) → (n ≡ 5 → ⊥) → (n ≡ 6 → ⊥) → (n ≡ 13 → ⊥) → (n ≡ 7 → ⊥) → Dec (n ≡ 8) → P n
      step_8 a1 a2 a3 a4 a5 a6 a13 a7 (yes e) = rw e (p8 (run ∙ e))
      step_8 a1 a2 a3 a4 a5 a6 a13 a7 (no a8) = step_9 a1 a2 a3 a4 a5 a6 a13 a7 a8 (ℕ_discrete n 9)

      step_7 : (n ≡ 1 → ⊥) → (n ≡ 2 → ⊥) → (n ≡ 3 → ⊥) → (n ≡ 4 → ⊥) → (n ≡ 5 → ⊥) → (n ≡ 6 → ⊥) → (n ≡ 13 → ⊥) → Dec (n ≡ 7) → P n
      step_7 a1 a2 a3 a4 a5 a6 a13 (yes e) = rw e (p7 (run ∙ e))
      step_7 a1 a2 a3 a4 a5 a6 a13 (no a7) = step_8 a1 a2 a3 a4 a5 a6 a13 a7 (ℕ_discrete n 8)

      step_13 : (n ≡ 1 → ⊥) → (n ≡ 2 → ⊥) → (n ≡ 3 → ⊥) → (n ≡ 4 → ⊥) → (n ≡ 5 → ⊥) → (n ≡ 6 → ⊥) → Dec (n ≡ 13) → P n
      step_13 a1 a2 a3 a4 a5 a6 (yes e) = rw e (p13 (run ∙ e))
      step_13 a1 a2 a3 a4 a5 a6 (no a13) = step_7 a1 a2 a3 a4 a5 a6 a13 (ℕ_discrete n 7)

      step_6 : (n ≡ 1 → ⊥) → (n ≡ 2 → ⊥) → (n ≡ 3 → ⊥) → (n ≡ 4 → ⊥) → (n ≡ 5 → ⊥) → Dec (n ≡ 6) → P n
      step_6 a1 a2 a3 a4 a5 (yes e) = rw e (p6 (run ∙ e))
      step_6 a1 a2 a3 a4 a5 (no a6) = step_13 a1 a2 a3 a4 a5 a6 (ℕ_discrete n 13)

      step_5 : (n ≡ 1 → ⊥) → (n ≡ 2 → ⊥) → (n ≡ 3 → ⊥) → (n ≡ 4 → ⊥) → Dec (n ≡ 5) → P n
      step_5 a1 a2 a3 a4 (yes e) = rw e (p5 (run ∙ e))
      step_5 a1 a2 a3 a4 (no a5) = step_6 a1 a2 a3 a4 a5 (ℕ_discrete n 6)

      step_4 : (n ≡ 1 → ⊥) → (n ≡ 2 → ⊥) → (n ≡ 3 → ⊥) → Dec (n ≡ 4) → P n
      step_4 a1 a2 a3 (yes e) = rw e (p4 (run ∙ e))
      step_4 a1 a2 a3 (no a4) = step_5 a1 a2 a3 a4 (ℕ_discrete n 5)

      step_3 : (n ≡ 1 → ⊥) → (n ≡ 2 → ⊥) → Dec (n ≡ 3) → P n
      step_3 a1 a2 (yes e) = absurd (never_3 bytes (run ∙ e))
      step_3 a1 a2 (no a3) = step_4 a1 a2 a3 (ℕ_discrete n 4)

      step_2 : (n ≡ 1 → ⊥) → Dec (n ≡ 2) → P n
      step_2 a1 (yes e) = rw e (p2 (run ∙ e))
      step_2 a1 (no a2) = step_3 a1 a2 (ℕ_discrete n 3)

      step_1 : Dec (n ≡ 1) → P n
      step_1 (yes e) = rw e (p1 (run ∙ e))
      step_1 (no a1) = step_2 a1 (ℕ_discrete n 2)
