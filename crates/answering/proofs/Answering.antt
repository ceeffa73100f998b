-- Questions asked one segment after another: what a routine that asks them answers and leaves in the buffer. Assumes nothing.
use Prim.Native.Nat.{ℕ, suc}
use native.Mathlib.Omega.{arith}
use mathlib.Core.Path.{◌≡◌, refl, sym, ◌∙◌}
use mathlib.Core.Bool.{Bool, true, false}
use mathlib.Core.List.{List, [], ◌∷◌, ◌++◌}
use Rattle.rules.specs.Questions.{first_no, after_call}
use Rattle.laws.proofs.Questions.{numbered, later_answer, first_answer, after_refusal}
use Rattle.answering.specs.Answers.{AnswersWith}

-- one question
pub one_no : (n : ℕ) (b : Bool) → b ≡ false → first_no ((n, b) ∷ []) ≡ n
unfolding first_no
one_no n b e = rw e

pub one_yes : (n : ℕ) (b : Bool) → b ≡ true → first_no ((n, b) ∷ []) ≡ 0
unfolding first_no
one_yes n b e = rw e

pub one_said : (n : ℕ) (b : Bool) → first_no ((suc n, b) ∷ []) ≡ 0 → b ≡ true
unfolding first_no
one_said n true h = refl
one_said n false h = absurd (omega (arith, h))

module _ {A : Type 0} (written held : A) where
  -- a refusal leaves the buffer
  pub refused : (qs : List (ℕ × Bool)) (n : ℕ) → first_no qs ≡ n → (n ≡ 0 → ⊥) → AnswersWith qs written held held n
  refused qs n e h = (sym e, rw e (sym (after_refusal n written held h)))

  -- an accepted call fills it
  pub accepted : (qs : List (ℕ × Bool)) (left : A) → first_no qs ≡ 0 → left ≡ written → AnswersWith qs written held left 0
  unfolding after_call
  accepted qs left e h = (sym e, rw e h)

  -- the first questions say no
  pub first_refused_lem : (qs rs : List (ℕ × Bool)) (n : ℕ) → first_no qs ≡ n → (n ≡ 0 → ⊥) → AnswersWith (qs ++ rs) written held held n
  first_refused_lem qs rs n e h = refused (qs ++ rs) n (first_answer qs rs (λ z. h (sym e ∙ z)) ∙ e) h

  -- they say yes, and the others are asked
  pub later : (qs rs : List (ℕ × Bool)) (left : A) (n : ℕ) → numbered qs ≡ true → first_no qs ≡ 0 → AnswersWith rs written held left n
      → AnswersWith (qs ++ rs) written held left n
  later qs rs left n k e h = rw (later_answer qs rs k e) h
