-- The finding of question 8: T_h from year 0 on, by the columns up to it and the diagonals before it. Assumes nothing.
use mathlib.Core.Path.{◌≡◌, refl, sym, ap, ap₂, ◌∙◌}
use mathlib.Core.Bool.{true, false}
use mathlib.Core.List.{List}
use Prim.Native.Nat.{ℕ, suc, ◌+◌, ◌≤◌, ◌<◌}
use native.Mathlib.Numerals.{add-one}
use native.Mathlib.Omega.{arith}
use lib.IntN.{ℤ, pos, nat_abs, ◌+ℤ◌, ◌-ℤ◌}
use lib.ListN.{get_or}
use mir.Syntax.{w64}
use mir.Val.{to_z, of_z}
use mir.Facts.{to_z-of_z}
use Rattle.rules.specs.Lists.{below, every}
use Rattle.rules.specs.Triangle.{sum_to, column_total, diagonal_total, corner_total, TotalsIn}
use Rattle.rules.specs.Separation.{rests_pass}
use Rattle.laws.proofs.Adding.{sum_to_size}
use Rattle.laws.proofs.Diff.{is_self, is_add, is_minus, is_eqs, eq_is}
use Rattle.laws.proofs.Lists.{get_d_up_to, every_same}
use Rattle.signed_sums.proofs.Sums.{difference_size}
use Rattle.laws.proofs.Sums.{sum_to_same}
use Rattle.laws.proofs.Signed.{held, size_fits}
use Rattle.totals.specs.CellSizes.{most_total, TotalsSmall}
use Rattle.totals.proofs.Walk.{corner_sums}
use Rattle.totals.specs.Summed.{Summed}
use Rattle.entries.proofs.Leading.{leading_stop}
use Rattle.reasons.proofs.Counted.{leading_same, stops_below}
use Rattle.finding.specs.Places.{development_year, found}
use Rattle.triangle_findings.specs.TriangleFindings.{rest_passes_of, refused_rest, rest_found, rest_finding, corner_by, most_corner}
use Rattle.triangle_findings.proofs.Totals.{column_at}

module _ (v d : ℕ → ℤ) where
  -- T_0 is v_0, and the next T
  pub corner_start : v 0 ≡ corner_by v d 0
  unfolding corner_by sum_to
  corner_start = eq_is (is_self (v 0)) (is_minus (is_add (is_self (pos 0)) (is_self (v 0))) (is_self (pos 0))) (omega arith)

  pub corner_next : (m : ℕ) → corner_by v d m -ℤ d m +ℤ v (m + 1) ≡ corner_by v d (m + 1)
  unfolding corner_by sum_to
  corner_next m =
      rw (add-one m, add-one (suc m))
      (eq_is (is_add (is_minus (is_minus (is_add (is_self (sum_to v m)) (is_self (v m))) (is_self (sum_to d m))) (is_self (d m))) (is_self (v (suc m))))
      (is_minus (is_add (is_add (is_self (sum_to v m)) (is_self (v m))) (is_self (v (suc m)))) (is_add (is_self (sum_to d m)) (is_self (d m))))
      (omega arith))

  -- how large it may be
  pub corner_size : ((i : ℕ) → nat_abs (v i) ≤ most_total) → ((i : ℕ) → nat_abs (d i) ≤ most_total) → (h : ℕ) → h ≤ 16 → nat_abs (corner_by v d h) ≤ most_corner
  unfolding corner_by
  corner_size a b h l =
      omega (arith, difference_size (sum_to v (h + 1)) (sum_to d h), sum_to_size v most_total a (h + 1), sum_to_size d most_total b h)

-- T of year m and a total, of the arrays v and d, as the code holds them
pub corner_held : (v d : List ℤ) → TotalsSmall v → TotalsSmall d → (m t : ℕ) → m ≤ 16 → t ≡ of_z w64 (corner_by (λ j. get_or v j (pos 0)) (λ h. get_or d h (pos 0)) m)
    → to_z w64 t ≡ corner_by (λ j. get_or v j (pos 0)) (λ h. get_or d h (pos 0)) m
corner_held v d a b m t l e =
    let column : ℕ → ℤ = λ j. get_or v j (pos 0) in
    let diagonal : ℕ → ℤ = λ h. get_or d h (pos 0) in
    ap (to_z w64) e ∙ to_z-of_z (size_fits (corner_by column diagonal m) (omega (arith, corner_size column diagonal a b m l)))

pub total_held : (v : List ℤ) → TotalsSmall v → (i : ℕ) → held (get_or v i (pos 0)) ≡ get_or v i (pos 0)
total_held v a i = to_z-of_z (size_fits (get_or v i (pos 0)) (omega (arith, a i)))

-- T of a square by its columns and diagonals
corner_is : (q : List (List ℤ)) (h : ℕ) → corner_total q h ≡ corner_by (column_total q) (diagonal_total q) h
unfolding corner_by
corner_is q h =
    rw (add-one h)
    (eq_is (is_self (corner_total q h)) (is_minus (is_self (sum_to (column_total q) (suc h))) (is_self (sum_to (diagonal_total q) h)))
    (omega (arith, is_eqs (is_add (is_self (corner_total q h)) (is_self (sum_to (diagonal_total q) h))) (is_self (sum_to (column_total q) (suc h))) (corner_sums q h))))

-- T of a square by the lists v and d of its totals
pub corner_of_lem : (q : List (List ℤ)) (v d : List ℤ) → TotalsIn q v d → (i : ℕ) → i < 16 → corner_by (λ j. get_or v j (pos 0)) (λ h. get_or d h (pos 0)) i ≡ corner_total q i
unfolding corner_by
corner_of_lem q v d of i l =
    ap₂ (λ (a b : ℤ). a -ℤ b) (sum_to_same (λ j. get_or v j (pos 0)) (column_total q) (i + 1) (λ j m. rw of.0 (get_d_up_to (column_total q) 16 j (pos 0) (omega arith))))
    (sum_to_same (λ h. get_or d h (pos 0)) (diagonal_total q) i (λ h m. rw of.1 (get_d_up_to (diagonal_total q) 16 h (pos 0) (omega arith))))
    ∙ sym (corner_is q i)

-- question 8, year by year
module _ (t v : ℕ → ℤ) where
  -- where it says no, there is a year that it says no of
  pub rest_below : (k : ℕ) → every (λ m. rest_passes_of t v (m + 1)) (below k) ≡ false → refused_rest t v k ≤ k
  unfolding refused_rest
  rest_below k f = omega (arith, stops_below (λ m. rest_passes_of t v (m + 1)) k f)

  -- the finding at the first such year
  rest_found_lem : (k h : ℕ) → h ≡ refused_rest t v k → found development_year 0 h (t h) (v h) (t h -ℤ v h) ≡ rest_found t v k
  unfolding rest_found
  rest_found_lem k h e = rw (sym e)

  -- as a loop comes to it
  pub rest_stop : (k m : ℕ) → m < k → every (λ i. rest_passes_of t v (i + 1)) (below m) ≡ true → rest_passes_of t v (m + 1) ≡ false
      → (one two three : ℤ) → one ≡ t (m + 1) → two ≡ v (m + 1) → three ≡ t (m + 1) -ℤ v (m + 1)
      → found development_year 0 (m + 1) one two three ≡ rest_found t v k
  unfolding refused_rest
  rest_stop k m l passed failed one two three a b c =
      rw (a, b, c) (rest_found_lem k (m + 1) (ap (λ (n : ℕ). n + 1) (sym (leading_stop (λ i. rest_passes_of t v (i + 1)) k m l passed failed))))

-- of the same totals the same finding
module _ (t u v w : ℕ → ℤ) (k : ℕ) (e : (i : ℕ) → i < k + 1 → t i ≡ u i) (f : (i : ℕ) → i < k + 1 → v i ≡ w i) where
  same_test : (m : ℕ) → m < k → rest_passes_of t v (m + 1) ≡ rest_passes_of u w (m + 1)
  unfolding rest_passes_of
  same_test m l = rw (e (m + 1) (omega arith), f (m + 1) (omega arith))

  pub rests_same : every (λ m. rest_passes_of t v (m + 1)) (below k) ≡ every (λ m. rest_passes_of u w (m + 1)) (below k)
  rests_same = every_same (λ m. rest_passes_of t v (m + 1)) (λ m. rest_passes_of u w (m + 1)) (λ m. m) (λ m. m) k same_test

  same_year : refused_rest u w k ≡ refused_rest t v k
  unfolding refused_rest
  same_year = ap (λ (n : ℕ). n + 1) (sym (leading_same (λ m. rest_passes_of t v (m + 1)) (λ m. rest_passes_of u w (m + 1)) k same_test))

  pub rest_same : every (λ m. rest_passes_of u w (m + 1)) (below k) ≡ false → rest_found t v k ≡ rest_found u w k
  rest_same no8 =
      let h = refused_rest u w k in
      let l = rest_below u w k no8 in
      sym (rest_found_lem t v k h same_year) ∙ rw (e h (omega arith), f h (omega arith)) (rest_found_lem u w k h refl)

-- question 8 of a square is asked of the years 1 to k
pub rests_no : (q : List (List ℤ)) (k : ℕ) → rests_pass q k ≡ false → every (λ m. rest_passes_of (corner_total q) (column_total q) (m + 1)) (below k) ≡ false
unfolding rests_pass rest_passes_of
rests_no q k no8 =
    every_same (λ m. rest_passes_of (corner_total q) (column_total q) (m + 1)) (rest_passes_of (corner_total q) (column_total q)) (λ m. m) (λ m. m + 1) k (λ m l. refl) ∙ no8

-- v and d, the totals of the square q in arrays
module _ (q : List (List ℤ)) (k : ℕ) (few : k < 16) (v d : List ℤ) (of : Summed q k v d) (no8 : rests_pass q k ≡ false) where
  abbrev column : ℕ → ℤ
  column j = get_or v j (pos 0)

  abbrev diagonal : ℕ → ℤ
  diagonal h = get_or d h (pos 0)

  corner_at : (i : ℕ) → i < k + 1 → corner_by column diagonal i ≡ corner_total q i
  corner_at i l = corner_of_lem q v d of.totals i (omega arith)

  pub rests_in : (n : ℕ) → n ≡ k → every (λ m. rest_passes_of (corner_by (λ j. get_or v j (pos 0)) (λ h. get_or d h (pos 0))) (λ j. get_or v j (pos 0)) (m + 1)) (below n) ≡ false
  rests_in n e = rw e (rests_same (corner_by column diagonal) (corner_total q) column (column_total q) k corner_at (column_at q k few v d of) ∙ rests_no q k no8)

  pub rest_is : (n : ℕ) → n ≡ k → rest_found (corner_by (λ j. get_or v j (pos 0)) (λ h. get_or d h (pos 0))) (λ j. get_or v j (pos 0)) n ≡ rest_finding q k
  unfolding rest_finding
  rest_is n e = rw e (rest_same (corner_by column diagonal) (corner_total q) column (column_total q) k corner_at (column_at q k few v d of) (rests_no q k no8))
