-- The words of a refusal by its number, and what the record of a run has passed that it refuses. Assumes nothing.
use Prim.Native.Nat.{ℕ}
use native.Mathlib.Omega.{arith}
use borrow.Author.Tests.{eq-eqb, ne_eqb}
use mathlib.Core.Path.{◌≡◌, sym, ◌∙◌}
use mathlib.Core.List.{List}
use Rattle.rules.specs.Results.{most_entries}
use Rattle.rules.specs.Engine.{run_answer}
use Rattle.wording.specs.Wording.{question_text, refusal_text}
use Rattle.outcomes.proofs.Passed.{Late, answered, opening, fields, cumulatives}
use Rattle.outcomes.proofs.Said.{development_no}
use Rattle.refusals.specs.Refusal.{PassedToSix, Refused, totals_of, development_of, words_of, refusal_of}

-- what a record has passed whose run answers 7 or 13
passed : (year : ℕ) (s : List ℕ) → Late year s → PassedToSix s
passed year s run = (opening year s run, (fields year s run, cumulatives year s run))

pub refused_by : (year : ℕ) (s : List ℕ) (n : ℕ) → n ≡ run_answer year s most_entries → Refused s n
refused_by year s n e =
    (λ h. passed year s (answered year s 7 (omega arith) (sym e ∙ h)), λ h. (passed year s (answered year s 13 (omega arith) (sym e ∙ h)), development_no year s (sym e ∙ h)))

-- the words of question 7, of 13 and of any other
module _ (s : List ℕ) (n : ℕ) where
  pub words_7 : n ≡ 7 → totals_of s ≡ words_of s n
  unfolding words_of
  words_7 e = rw (eq-eqb n 7 e)

  pub words_13 : n ≡ 13 → development_of s ≡ words_of s n
  unfolding words_of
  words_13 e = rw e

  pub other_is : (n ≡ 7 → ⊥) → (n ≡ 13 → ⊥) → question_text n ≡ words_of s n
  unfolding words_of
  other_is h g = rw (ne_eqb n 7 h, ne_eqb n 13 g)

  -- whose line is that of a refusal without a record
  pub other_line : (n ≡ 7 → ⊥) → (n ≡ 13 → ⊥) → refusal_of s n ≡ refusal_text n
  unfolding refusal_of refusal_text
  other_line h g = rw (sym (other_is h g))
