-- The finding of question 7: by the first column, and then the first diagonal, that is below zero; by the totals in the arrays, it is that of the square. Assumes nothing.
use mathlib.Core.Path.{◌≡◌, refl, sym, ap, ◌∙◌}
use mathlib.Core.List.{List}
use Prim.Native.Nat.{ℕ, ◌+◌, ◌≤◌, ◌<◌}
use native.Mathlib.Decide.{dec_lt}
use native.Mathlib.Numerals.{add-one}
use native.Mathlib.Omega.{arith}
use borrow.Author.Tests.{lt-ltb, le-ltb}
use lib.Dec.{eqb}
use lib.IntN.{ℤ, pos, nat_abs}
use lib.ListN.{get_or}
use lib.Signed.{le_z}
use Rattle.rules.specs.Triangle.{sum_to, column_total, diagonal_total, all_total}
use Rattle.laws.proofs.Lists.{get_d_up_to}
use Rattle.laws.proofs.Joined.{up_to_all}
use Rattle.laws.proofs.Sums.{sum_to_same}
use Rattle.totals.specs.CellSizes.{Cells, most_total, TotalsSmall}
use Rattle.totals.proofs.Cells.{cells_size}
use Rattle.totals.proofs.Walk.{all_columns_to}
use Rattle.totals.specs.Summed.{Summed}
use Rattle.reasons.specs.Reasons.{first_below}
use Rattle.reasons.proofs.Counted.{leading_same}
use Rattle.finding.specs.Places.{nowhere, development_year, payment_year, found}
use Rattle.triangle_findings.specs.TriangleFindings.{totals_found, totals_finding}

-- the finding where a column is below zero, where a diagonal is, and where none is
module _ (v d : ℕ → ℤ) (all : ℤ) (k : ℕ) where
  pub column_found : (j : ℕ) → j ≡ first_below v k → j < k + 1 → found development_year 0 j (v j) (pos 0) (pos 0) ≡ totals_found v d all k
  unfolding totals_found
  column_found j e l = rw (sym e, lt-ltb j (k + 1) l)

  pub diagonal_found : (j h : ℕ) → j ≡ first_below v k → k + 1 ≤ j → h ≡ first_below d k → h < k + 1 → found payment_year h 0 (d h) (pos 0) (pos 0) ≡ totals_found v d all k
  unfolding totals_found
  diagonal_found j h e m f l = rw (sym e, sym f, le-ltb j (k + 1) m, lt-ltb h (k + 1) l)

  pub all_found : (j h : ℕ) → j ≡ first_below v k → k + 1 ≤ j → h ≡ first_below d k → k + 1 ≤ h → found nowhere 0 0 all (pos 0) (pos 0) ≡ totals_found v d all k
  unfolding totals_found
  all_found j h e m f l = rw (sym e, sym f, le-ltb j (k + 1) m, le-ltb h (k + 1) l)

below_same : (v w : ℕ → ℤ) (k : ℕ) → ((i : ℕ) → i < k + 1 → v i ≡ w i) → first_below w k ≡ first_below v k
unfolding first_below
below_same v w k h = sym (leading_same (λ i. le_z (pos 0) (v i)) (λ i. le_z (pos 0) (w i)) (k + 1) (λ i l. ap (le_z (pos 0)) (h i l)))

-- of the same totals the same finding
totals_same : (v w d e : ℕ → ℤ) (all : ℤ) (k : ℕ) → ((i : ℕ) → i < k + 1 → v i ≡ w i) → ((i : ℕ) → i < k + 1 → d i ≡ e i) → totals_found v d all k ≡ totals_found w e all k
totals_same v w d e all k f g = go (dec_lt (first_below w k) (k + 1)) (dec_lt (first_below e k) (k + 1))
  where
    go : Dec (first_below w k < k + 1) → Dec (first_below e k < k + 1) → totals_found v d all k ≡ totals_found w e all k
    go (yes l) m =
        sym (column_found v d all k _ (below_same v w k f) l) ∙ ap (λ (z : ℤ). found development_year 0 (first_below w k) z (pos 0) (pos 0)) (f _ l) ∙ column_found w e all k _ refl l
    go (no l) (yes m) =
        sym (diagonal_found v d all k _ _ (below_same v w k f) (omega arith) (below_same d e k g) m)
        ∙ ap (λ (z : ℤ). found payment_year (first_below e k) 0 z (pos 0) (pos 0)) (g _ m)
        ∙ diagonal_found w e all k _ _ refl (omega arith) refl m
    go (no l) (no m) =
        sym (all_found v d all k _ _ (below_same v w k f) (omega arith) (below_same d e k g) (omega arith)) ∙ all_found w e all k _ _ refl (omega arith) refl (omega arith)

-- the totals of a square are small
column_most : (q : List (List ℤ)) → Cells q → (j : ℕ) → nat_abs (column_total q j) ≤ most_total
unfolding column_total
column_most q cells j = cells_size q cells (λ r c. eqb c j)

diagonal_most : (q : List (List ℤ)) → Cells q → (h : ℕ) → nat_abs (diagonal_total q h) ≤ most_total
unfolding diagonal_total
diagonal_most q cells h = cells_size q cells (λ r c. eqb (r + c) h)

-- v and d, the totals of the square q in arrays
module _ (q : List (List ℤ)) (k : ℕ) (few : k < 16) (v d : List ℤ) (of : Summed q k v d) where
  pub columns_small : TotalsSmall v
  columns_small = rw of.totals.0 (up_to_all (λ z. nat_abs z ≤ most_total) (pos 0) (omega arith) (column_total q) 16 (λ i l. column_most q of.cells i))

  pub diagonals_small : TotalsSmall d
  diagonals_small = rw of.totals.1 (up_to_all (λ z. nat_abs z ≤ most_total) (pos 0) (omega arith) (diagonal_total q) 16 (λ i l. diagonal_most q of.cells i))

  pub column_at : (i : ℕ) → i < k + 1 → get_or v i (pos 0) ≡ column_total q i
  column_at i l = ap (λ (x : List ℤ). get_or x i (pos 0)) of.totals.0 ∙ get_d_up_to (column_total q) 16 i (pos 0) (omega arith)

  pub diagonal_at : (i : ℕ) → i < k + 1 → get_or d i (pos 0) ≡ diagonal_total q i
  diagonal_at i l = ap (λ (x : List ℤ). get_or x i (pos 0)) of.totals.1 ∙ get_d_up_to (diagonal_total q) 16 i (pos 0) (omega arith)

  pub totals_is : (n : ℕ) → n ≡ k → totals_found (λ j. get_or v j (pos 0)) (λ h. get_or d h (pos 0)) (sum_to (λ j. get_or v j (pos 0)) (n + 1)) n ≡ totals_finding q k
  unfolding totals_finding
  totals_is n e =
      let sum : sum_to (λ j. get_or v j (pos 0)) (k + 1) ≡ all_total q
      = sum_to_same (λ j. get_or v j (pos 0)) (column_total q) (k + 1) column_at ∙ rw (add-one k) (sym (all_columns_to q k few of.outside)) in
      rw (e, sum) (totals_same (λ j. get_or v j (pos 0)) (column_total q) (λ h. get_or d h (pos 0)) (diagonal_total q) (all_total q) k column_at diagonal_at)
