-- The years of which question 8 says no, one year on: what it adds, and how much they are at most. Assumes nothing.
use mathlib.Core.Path.{◌≡◌, refl, sym, ap, ◌∙◌, subst}
use mathlib.Core.Bool.{Bool, true, false, cond}
use mathlib.Core.List.{List, [], ◌∷◌, ◌++◌, map, append-nil, map-append}
use Prim.Native.Nat.{ℕ, zero, suc, ◌+◌, ◌*◌, ◌/◌, ◌≤◌, ◌<◌}
use native.Mathlib.Numerals.{add-one}
use native.Mathlib.Decide.{dec_lt}
use native.Mathlib.Omega.{arith}
use lib.IntN.{ℤ, pos}
use lib.ListN.{length, length-append, get_or}
use lib.Signed.{lt_z}
use Rattle.rules.specs.Lists.{joined}
use Rattle.laws.proofs.Joined.{joined_append}
use Rattle.laws.proofs.Order.{less_yes, less_no}
use Rattle.triangle_findings.specs.TriangleFindings.{rest_passes_of}
use Rattle.composing.proofs.Decimals.{length_digit, length_digits}
use Rattle.composing.specs.Text.{ascii, decimal}
use Rattle.rest_years.specs.RestYears.{left_of, passes_year, refused_years, year_label, year_values, label_where, row_where, values_where, year_labels, all_values}

module _ (t v : List ℤ) (m : ℕ) where
  next : refused_years t v (m + 1) ≡ refused_years t v m ++ cond (passes_year t v (m + 1)) [] ((m + 1) ∷ [])
  unfolding refused_years
  next = rw (add-one m)

  -- whatever a year's row is
  added : {A : Type 0} (f : ℕ → List A) → joined (map f (refused_years t v (m + 1))) ≡ joined (map f (refused_years t v m)) ++ cond (passes_year t v (m + 1)) [] (f (m + 1))
  added f = ap (λ (ys : List ℕ). joined (map f ys)) next ∙ go (passes_year t v (m + 1)) (refused_years t v m)
    where
      go : (b : Bool) (ys : List ℕ) → joined (map f (ys ++ cond b [] ((m + 1) ∷ []))) ≡ joined (map f ys) ++ cond b [] (f (m + 1))
      go true ys = ap (λ (zs : List ℕ). joined (map f zs)) (append-nil ys) ∙ sym (append-nil (joined (map f ys)))
      go false ys = ap joined (map-append f ys ((m + 1) ∷ [])) ∙ joined_append (map f ys) (f (m + 1))

  pub labels_next : year_labels t v (m + 1) ≡ year_labels t v m ++ label_where t v (m + 1)
  unfolding year_labels label_where
  labels_next = added year_label

  pub values_next : all_values t v (m + 1) ≡ all_values t v m ++ values_where t v (m + 1)
  unfolding all_values values_where
  values_next = added (year_values t v)

  pub rows_next : length (refused_years t v (m + 1)) ≡ length (refused_years t v m) + row_where t v (m + 1)
  unfolding row_where
  rows_next = ap length next ∙ length-append (refused_years t v m) (cond (passes_year t v (m + 1)) [] ((m + 1) ∷ [])) ∙ ap (λ (n : ℕ). length (refused_years t v m) + n) (go (passes_year t v (m + 1)))
    where
      go : (b : Bool) → length (cond b [] ((m + 1) ∷ [])) ≡ cond b 0 1
      go true = refl
      go false = refl

-- where question 8 says no of year h, its row, and where it says yes nothing
module _ (t v : List ℤ) (h : ℕ) where
  pub label_no : lt_z (left_of t v h) (pos 1) ≡ true → label_where t v h ≡ decimal h ++ ascii "\n"
  unfolding label_where year_label rest_passes_of
  label_no e = rw (less_yes (left_of t v h) (pos 1) e)

  pub label_yes : lt_z (left_of t v h) (pos 1) ≡ false → label_where t v h ≡ []
  unfolding label_where rest_passes_of
  label_yes e = rw (less_no (left_of t v h) (pos 1) e)

  pub row_no : lt_z (left_of t v h) (pos 1) ≡ true → (row_where t v h ≡ 1) × (values_where t v h ≡ get_or t h (pos 0) ∷ get_or v h (pos 0) ∷ left_of t v h ∷ [])
  unfolding row_where values_where year_values rest_passes_of
  row_no e = rw (less_yes (left_of t v h) (pos 1) e) (refl, refl)

  pub row_yes : lt_z (left_of t v h) (pos 1) ≡ false → (row_where t v h ≡ 0) × (values_where t v h ≡ [])
  unfolding row_where values_where rest_passes_of
  row_yes e = rw (less_no (left_of t v h) (pos 1) e) (refl, refl)

-- of no year nothing
pub no_years : (t v : List ℤ) → (year_labels t v 0 ≡ []) × ((all_values t v 0 ≡ []) × (length (refused_years t v 0) ≡ 0))
unfolding refused_years year_labels all_values joined
no_years t v = (refl, (refl, refl))

-- a label has at most two digits, and a row three values
label_most_lem : (h : ℕ) → h < 100 → length (year_label h) ≤ 3
unfolding year_label
label_most_lem h l = simp length-append (omega (arith, go (dec_lt h 10)))
  where
    go : Dec (h < 10) → length (decimal h) ≤ 2
    go (yes d) = omega (arith, length_digit h d)
    go (no d) = omega (arith, length_digits h (omega arith) (omega arith), length_digit (h / 10) (omega arith))

module _ (t v : List ℤ) where
  where_most : (h : ℕ) → h < 100 → length (label_where t v h) ≤ 3
  unfolding label_where
  where_most h l = go (passes_year t v h)
    where
      go : (b : Bool) → length (cond b [] (year_label h)) ≤ 3
      go true = omega arith
      go false = label_most_lem h l

  where_count : (h : ℕ) → (length (values_where t v h) ≡ 3 * row_where t v h) × (row_where t v h ≤ 1)
  unfolding values_where row_where year_values
  where_count h = go (passes_year t v h)
    where
      go : (b : Bool) → (length (cond b [] (year_values t v h)) ≡ 3 * cond b 0 1) × (cond b 0 1 ≤ 1)
      go true = (refl, omega arith)
      go false = (refl, omega arith)

  pub values_count : (k : ℕ) → length (all_values t v k) ≡ 3 * length (refused_years t v k)
  values_count zero = let none = no_years t v in rw (none.1.0, none.1.1)
  values_count (suc m) =
      subst (λ (k : ℕ). length (all_values t v k) ≡ 3 * length (refused_years t v k)) (add-one m)
      (rw (values_next t v m, rows_next t v m)
      (length-append (all_values t v m) (values_where t v (m + 1)) ∙ omega (arith, values_count m, (where_count (m + 1)).0)))

  -- no more years than k
  pub years_most : (k : ℕ) → length (refused_years t v k) ≤ k
  years_most zero = omega (arith, (no_years t v).1.1)
  years_most (suc m) = subst (λ (k : ℕ). length (refused_years t v k) ≤ k) (add-one m) (omega (arith, rows_next t v m, (where_count (m + 1)).1, years_most m))

  pub labels_most : (k : ℕ) → k < 16 → length (year_labels t v k) ≤ 3 * k
  labels_most zero l = omega (arith, ap length (no_years t v).0)
  labels_most (suc m) l =
      subst (λ (k : ℕ). length (year_labels t v k) ≤ 3 * k) (add-one m)
      (omega (arith, ap length (labels_next t v m), length-append (year_labels t v m) (label_where t v (m + 1)), where_most (m + 1) (omega arith), labels_most m (omega arith)))
