-- Texts between texts, and the words of a problem by its number. Assumes nothing.
use mathlib.Core.Path.{◌≡◌, refl, ap}
use mathlib.Core.Bool.{cond}
use mathlib.Core.List.{List, [], ◌∷◌, ◌++◌, append_assoc}
use Prim.Native.Nat.{ℕ, zero, suc, ◌≤◌}
use native.Mathlib.Omega.{arith}
use borrow.Author.Tests.{eq-eqb, ne_eqb}
use lib.Dec.{eqb}
use lib.ListN.{get_or, get_or-eq_default}
use Rattle.composing.specs.Text.{ascii, decimal}
use Rattle.sheet.specs.declared.Due.{Due}
use Rattle.sheet.specs.Table.{label_due}
use Rattle.sheet_wording.specs.Problem.{named, count_text, or_inflation, problem_words}

-- further text after a word, and after a text between two
pub named_append : (w ys : List ℕ) → ascii "`" ++ (w ++ (ascii "`" ++ ys)) ≡ named w ++ ys
unfolding named
named_append w ys = ap (λ (l : List ℕ). 96 ∷ l) (rw (append_assoc w (ascii "`") ys))

pub words_between : (xs ys zs rest : List ℕ) → (xs ++ (ys ++ zs)) ++ rest ≡ xs ++ (ys ++ (zs ++ rest))
words_between xs ys zs rest = simp append_assoc

pub counts_are : (d : Due) (c : ℕ)
    → (named (label_due d) ++ ascii " takes ")
    ++ ((decimal d.count ++ cond (eqb d.count 1) (ascii " number, and ") (ascii " numbers, and ")) ++ (decimal c ++ cond (eqb c 1) (ascii " stands there") (ascii " stand there")))
    ≡ count_text d c
unfolding count_text
counts_are d c = simp append_assoc

-- where the indices are due, and where they are not
pub or_inflation_lem : (d : Due) → d.row ≡ 3 → or_inflation d ≡ ascii " or `inflation`"
unfolding or_inflation
or_inflation_lem d e = rw (eq-eqb d.row 3 e)

pub or_none : (d : Due) → (d.row ≡ 3 → ⊥) → or_inflation d ≡ []
unfolding or_inflation
or_none d e = rw (ne_eqb d.row 3 e)

-- a number that no problem has
pub no_words : (d : Due) (c : ℕ) (w : List ℕ) (p : ℕ) → (p ≡ 1 → ⊥) → (p ≡ 2 → ⊥) → (p ≡ 3 → ⊥) → (p ≡ 4 → ⊥) → (p ≡ 5 → ⊥) → (p ≡ 6 → ⊥)
    → get_or (problem_words d c w) p [] ≡ []
unfolding problem_words
no_words d c w zero e1 e2 e3 e4 e5 e6 = refl
no_words d c w (suc n) e1 e2 e3 e4 e5 e6 = get_or-eq_default (problem_words d c w) [] (past_six (suc n) (past_three (suc n) (omega arith) e1 e2 e3) e4 e5 e6)
  where
    past_three : (n : ℕ) → 1 ≤ n → (n ≡ 1 → ⊥) → (n ≡ 2 → ⊥) → (n ≡ 3 → ⊥) → 4 ≤ n
    past_three n h a b c = omega arith

    past_six : (n : ℕ) → 4 ≤ n → (n ≡ 4 → ⊥) → (n ≡ 5 → ⊥) → (n ≡ 6 → ⊥) → 7 ≤ n
    past_six n h a b c = omega arith
