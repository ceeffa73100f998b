-- A line of inflation by its shape, by what its numbers are, and by what is wrong with it. Assumes nothing.
use mathlib.Core.Path.{◌≡◌, refl, sym, ◌∙◌}
use mathlib.Core.Bool.{Bool, true, false, cond, ◌&&◌}
use mathlib.Core.List.{List, [], ◌∷◌}
use Prim.Native.Nat.{ℕ, zero, suc, ◌+◌, ◌-◌, ◌≤◌}
use native.Mathlib.Numerals.{add-one}
use native.Mathlib.Omega.{arith}
use borrow.Author.Tests.{eqb-false, eq-eqb, ne_eqb, lt-ltb, le-ltb}
use lib.Dec.{eqb, ltb}
use lib.ListN.{length, get_or}
use lib.Ieee.{Float}
use Rattle.rules.specs.Lists.{between}
use Rattle.rules.specs.Questions.{first_no}
use Rattle.rules.specs.Inflation.{most_years, rate_fits, rates_pass, indices_pass, inflation_questions, inflation_answer, indices_of}
use Rattle.rules.specs.declared.Inflation.{Inflation}
use Rattle.rules.specs.declared.Inflation.TheVariants.{Flat, Fading, Shock}
use Rattle.entries.specs.Leading.{leading}
use Rattle.inflation.specs.Walk.{is_index_at, years_within}
use Rattle.inflation.proofs.Answers.{years_most}
use Rattle.composing.specs.Text.{ascii}
use Rattle.scanning.specs.Parts.{before, same_text_of}
use Rattle.scanning.specs.Numbers.{is_natural, size_from}
use Rattle.cells.specs.Cells.{cells_of}
use Rattle.rate_text.specs.RateText.{is_rate, rate_of}
use Rattle.inflation_line.specs.InflationLine.{shape_names, shape_at, numbers_due, is_due, is_asked, passing_numbers, shape_from, shape_of, fault, rates_fault, fault_in}

-- the place of a shape, by the names that a word is and is not; w is the first cell
module _ (line w : List ℕ) (e : w ≡ get_or (cells_of line) 0 []) where
  pub is_flat : same_text_of w (ascii "flat") ≡ true → 0 ≡ shape_at line
  unfolding shape_at shape_names before
  is_flat h = rw (← e, h)

  module _ (a : same_text_of w (ascii "flat") ≡ false) where
    pub is_fading : same_text_of w (ascii "fading") ≡ true → 1 ≡ shape_at line
    unfolding shape_at shape_names before
    is_fading h = rw (← e, a, h)

    module _ (b : same_text_of w (ascii "fading") ≡ false) where
      pub is_shock : same_text_of w (ascii "shock") ≡ true → 2 ≡ shape_at line
      unfolding shape_at shape_names before
      is_shock h = rw (← e, a, b, h)

      pub no_shape : same_text_of w (ascii "shock") ≡ false → 3 ≡ shape_at line
      unfolding shape_at shape_names before
      no_shape h = rw (← e, a, b, h)

-- a line that names a shape has a cell
pub shape_cell : (line : List ℕ) → (shape_at line ≡ 3 → ⊥) → 1 ≤ length (cells_of line)
unfolding shape_at shape_names before same_text_of
shape_cell line h = go (cells_of line) h
  where
    go : (cs : List (List ℕ)) → (before (same_text_of (get_or cs 0 [])) shape_names ≡ 3 → ⊥) → 1 ≤ length cs
    go [] f = absurd (f refl)
    go (c ∷ cs) f = omega arith

-- the rates in the shape at a place
module _ (place : ℕ) (rate other : Float) (year : ℕ) where
  pub shape_first : place ≡ 0 → Flat rate ≡ shape_from place rate other year
  unfolding shape_from
  shape_first e = rw e

  pub shape_second : place ≡ 1 → Fading rate other ≡ shape_from place rate other year
  unfolding shape_from
  shape_second e = rw e

pub shape_third : (place : ℕ) (rate other : Float) (year : ℕ) → (place ≡ 0 → ⊥) → (place ≡ 1 → ⊥) → Shock rate other year ≡ shape_from place rate other year
unfolding shape_from
shape_third zero rate other year h g = absurd (h refl)
shape_third (suc zero) rate other year h g = absurd (g refl)
shape_third (suc (suc place)) rate other year h g = refl

-- a year, and a rate
module _ (n : ℕ) (w : List ℕ) where
  pub due_year : n ≡ 3 → is_natural w ≡ is_due n w
  unfolding is_due
  due_year e = rw (eq-eqb n 3 e)

  pub due_rate : (n ≡ 3 → ⊥) → is_rate w ≡ is_due n w
  unfolding is_due
  due_rate e = rw (ne_eqb n 3 e)

  pub asked_year : (years : ℕ) → n ≡ 3 → between 1 years (size_from 0 w) ≡ is_asked years n w
  unfolding is_asked
  asked_year years e = rw (eq-eqb n 3 e)

  pub asked_rate : (years : ℕ) → (n ≡ 3 → ⊥) → rate_fits (rate_of w) ≡ is_asked years n w
  unfolding is_asked
  asked_rate years e = rw (ne_eqb n 3 e)

-- what is wrong with the rates, by the number that their questions answer
module _ (years : ℕ) (line : List ℕ) (shape : Inflation) (e : shape ≡ shape_of line) where
  pub fault_rate : inflation_answer shape years ≡ 20 → (good : ℕ) → good ≡ passing_numbers true years line (numbers_due (shape_at line)) → fault 20 (good + 1) ≡ rates_fault years line
  unfolding rates_fault
  fault_rate h good g = rw (← e, h, g, add-one)

  pub fault_year : inflation_answer shape years ≡ 21 → (within : ℕ) → within ≡ years_within shape years → fault 21 (within + 1) ≡ rates_fault years line
  unfolding rates_fault
  fault_year h within g = rw (← e, h, g, add-one)

  pub fault_none : (inflation_answer shape years ≡ 20 → ⊥) → (inflation_answer shape years ≡ 21 → ⊥) → fault 0 0 ≡ rates_fault years line
  unfolding rates_fault
  fault_none h g = rw (← e, ne_eqb (inflation_answer shape years) 20 h, ne_eqb (inflation_answer shape years) 21 g)

-- what is wrong with a line
module _ (years : ℕ) (line : List ℕ) where
  pub fault_shape : shape_at line ≡ 3 → fault 1 0 ≡ fault_in years line
  unfolding fault_in
  fault_shape h = rw h

  module _ (a : shape_at line ≡ 3 → ⊥) where
    pub fault_count : (length (cells_of line) ≡ shape_at line + 2 → ⊥) → fault 2 (length (cells_of line) - 1) ≡ fault_in years line
    unfolding fault_in
    fault_count h = rw (ne_eqb (shape_at line) 3 a, ne_eqb (length (cells_of line)) (suc (suc (shape_at line))) (λ q. h (omega arith)))

    module _ (b : length (cells_of line) ≡ shape_at line + 2) where
      counted : length (cells_of line) ≡ suc (suc (shape_at line))
      counted = omega arith

      pub fault_number : (good : ℕ) → good ≡ passing_numbers false years line (numbers_due (shape_at line)) → good ≤ shape_at line → fault 3 (good + 1) ≡ fault_in years line
      unfolding fault_in
      fault_number good g h =
          rw (
            ne_eqb (shape_at line) 3 a,
            eq-eqb (length (cells_of line)) (suc (suc (shape_at line))) counted,
            ← g,
            lt-ltb good (suc (shape_at line)) (omega arith),
            add-one good,
          )

      pub fault_rates : passing_numbers false years line (numbers_due (shape_at line)) ≡ numbers_due (shape_at line) → rates_fault years line ≡ fault_in years line
      unfolding fault_in
      fault_rates g =
          rw (
            ne_eqb (shape_at line) 3 a,
            eq-eqb (length (cells_of line)) (suc (suc (shape_at line))) counted,
            g,
            le-ltb (suc (shape_at line)) (suc (shape_at line)) (omega arith),
          )

-- of the years wanted not more are within than there are
pub within_most : (shape : Inflation) (years : ℕ) → years_within shape years ≤ years
unfolding years_within leading
within_most shape zero = omega arith
within_most shape (suc n) = go (eqb (leading (is_index_at shape) n) n && is_index_at shape n) (within_most shape n)
  where
    go : (b : Bool) → leading (is_index_at shape) n ≤ n → cond b (suc n) (leading (is_index_at shape) n) ≤ suc n
    go true h = omega arith
    go false h = omega arith

-- question 21 is asked of at most sixteen years
pub years_few : (shape : Inflation) (years : ℕ) → inflation_answer shape years ≡ 21 → years ≤ most_years
unfolding inflation_answer inflation_questions first_no
years_few shape years h = go (rates_pass shape years) refl
  where
    go : (b : Bool) → rates_pass shape years ≡ b → years ≤ most_years
    go true e = years_most shape years e
    go false e =
        let other : ◌≡◌ {A = ℕ} 20 21 = sym (rw e) ∙ h in
        absurd (omega arith)

-- the number of a call is that of its questions
pub answer_of_lem : (shape : Inflation) (years : ℕ) → (indices_of shape years).refused ≡ inflation_answer shape years
unfolding indices_of
answer_of_lem shape years = refl

-- the number is 0, 20 or 21
answer_cases : (shape : Inflation) (years : ℕ) → (inflation_answer shape years ≡ 20 → ⊥) → (inflation_answer shape years ≡ 21 → ⊥) → inflation_answer shape years ≡ 0
unfolding inflation_answer inflation_questions first_no
answer_cases shape years = go (rates_pass shape years) (indices_pass shape years)
  where
    go : (a b : Bool) → (first_no ((20, a) ∷ (21, b) ∷ []) ≡ 20 → ⊥) → (first_no ((20, a) ∷ (21, b) ∷ []) ≡ 21 → ⊥) → first_no ((20, a) ∷ (21, b) ∷ []) ≡ 0
    go true true f g = refl
    go true false f g = absurd (g refl)
    go false b f g = absurd (f refl)

-- a line with which nothing is wrong makes the indices
pub fault_accepted : (years : ℕ) (line : List ℕ) → (fault_in years line).kind ≡ 0 → inflation_answer (shape_of line) years ≡ 0
unfolding fault_in rates_fault
fault_accepted years line h =
    go (eqb (shape_at line) 3) (eqb (length (cells_of line)) (suc (numbers_due (shape_at line)))) (ltb (passing_numbers false years line (numbers_due (shape_at line))) (numbers_due (shape_at line)))
    (eqb (inflation_answer (shape_of line) years) 20) refl (eqb (inflation_answer (shape_of line) years) 21) refl _ _ _ _ h
  where
    go : (a b c d : Bool) → eqb (inflation_answer (shape_of line) years) 20 ≡ d → (e : Bool) → eqb (inflation_answer (shape_of line) years) 21 ≡ e → (w x y z : ℕ)
        → (cond a (fault 1 0) (cond b (cond c (fault 3 w) (cond d (fault 20 x) (cond e (fault 21 y) (fault 0 0)))) (fault 2 z))).kind ≡ 0
        → inflation_answer (shape_of line) years ≡ 0
    go true b c d f e g w x y z k = absurd (omega arith)
    go false false c d f e g w x y z k = absurd (omega arith)
    go false true true d f e g w x y z k = absurd (omega arith)
    go false true false true f e g w x y z k = absurd (omega arith)
    go false true false false f true g w x y z k = absurd (omega arith)
    go false true false false f false g w x y z k = answer_cases (shape_of line) years (eqb-false _ 20 f) (eqb-false _ 21 g)
