-- The record of an input: the part from its start on, and none where the input ends with its year or before, which question 1 refuses. Assumes nothing.
use mathlib.Core.Path.{◌≡◌, refl, ◌∙◌}
use mathlib.Core.List.{List, [], ◌∷◌}
use Prim.Native.Nat.{ℕ, ◌-◌, ◌≤◌, min}
use native.Mathlib.Omega.{arith}
use lib.ListN.{length, take, drop, length-drop}
use lib.Seq.{take_all}
use Rattle.rules.specs.Questions.{first_no}
use Rattle.rules.specs.Reading.{has_last_year, opening_questions}
use Rattle.rules.specs.Engine.{questions, run_answer}
use Rattle.valuation.specs.Valuation.{pair_at, year_in, record_in}

pub record-part : (s : List ℕ) (from : ℕ) → drop from s ≡ record_in s → take (length s - from) (drop from s) ≡ record_in s
record-part s from e = take_all (length s - from) (drop from s) (omega (arith, length-drop from s)) ∙ e

pub no_record : (s : List ℕ) → length s ≤ 2 → record_in s ≡ []
unfolding record_in
no_record [] h = refl
no_record (x ∷ []) h = refl
no_record (x ∷ (y ∷ [])) h = refl
no_record (x ∷ (y ∷ (z ∷ s))) h = absurd (omega arith)

pub refused_one : (s : List ℕ) (m : ℕ) → length s ≤ 2 → run_answer (year_in s) (record_in s) m ≡ 1
unfolding run_answer questions opening_questions has_last_year first_no
refused_one s m h = rw (no_record s h)

-- 2026 and 2027, and inputs that end before both bytes
pub worked_years : (year_in (7 ∷ 234 ∷ 16 ∷ []) ≡ 2026) × ((year_in (7 ∷ 235 ∷ []) ≡ 2027) × ((year_in (7 ∷ []) ≡ 0) × (year_in [] ≡ 0)))
unfolding year_in pair_at
worked_years = (refl, (refl, (refl, refl)))

-- and the record starts behind both bytes, or where the input ends before
pub record_from : (s : List ℕ) (n : ℕ) → n ≡ min (length s) 2 → (n ≤ length s) × (drop n s ≡ record_in s)
unfolding record_in
record_from s n e = (omega (arith, e), rw e (dropped s))
  where
    dropped : (s : List ℕ) → drop (min (length s) 2) s ≡ drop 2 s
    dropped [] = refl
    dropped (x ∷ []) = refl
    dropped (x ∷ (y ∷ s)) =
        let f : min (length (x ∷ (y ∷ s))) 2 ≡ 2 = omega arith in
        rw f
