-- T_h, cell by cell: from one year to the one before, at year 0 and at year k. Assumes nothing.
use mathlib.Core.Path.{◌≡◌, refl, sym, ◌∙◌, ap₂}
use mathlib.Core.Bool.{Bool, true, false, ◌&&◌, cond}
use mathlib.Core.List.{List}
use Prim.Native.Nat.{ℕ, suc, ◌+◌, ◌≤◌, ◌<◌}
use native.Mathlib.Omega.{arith}
use native.Mathlib.Decide.{dec_le, ℕ_discrete}
use lib.Dec.{leb, eqb}
use lib.IntN.{ℤ, pos, ◌+ℤ◌, +ℤ_comm}
use borrow.Author.Tests.{le-leb, lt-leb}
use Rattle.rules.specs.Triangle.{cell_of, column_total, diagonal_total, corner_total, ZeroOutside}
use Rattle.laws.proofs.Sums.{passed, left_out, zero_term, passed_eq, left_out_eq}
use Rattle.totals.proofs.Cells.{cells_same, cells_pairs}

-- whether a cell counts towards T_h
abbrev counts : ℕ → ℕ → ℕ → Bool
counts h i j = leb j h && leb h (i + j)

both_yes : {a b : Bool} → a ≡ true → b ≡ true → a && b ≡ true
both_yes e f = rw (e, f) refl

first_no_lem : {a : Bool} (b : Bool) → a ≡ false → a && b ≡ false
first_no_lem b e = rw e refl

second_no : {a b : Bool} → a ≡ true → b ≡ false → a && b ≡ false
second_no e f = rw (e, f) refl

-- a cell of T_h, one right of it, and one before its diagonals
inside : (i j h : ℕ) (z : ℤ) → j ≤ h → h ≤ i + j → cond (counts h i j) z (pos 0) ≡ z
inside i j h z a b = passed z (both_yes (le-leb j h a) (le-leb h (i + j) b))

right_of : (i j h : ℕ) (z : ℤ) → h < j → cond (counts h i j) z (pos 0) ≡ pos 0
right_of i j h z a = left_out z (first_no_lem (leb h (i + j)) (lt-leb j h a))

before : (i j h : ℕ) (z : ℤ) → j ≤ h → i + j < h → cond (counts h i j) z (pos 0) ≡ pos 0
before i j h z a b = left_out z (second_no (le-leb j h a) (lt-leb h (i + j) b))

four : {a b c d a' b' c' d' : ℤ} → a ≡ a' → b ≡ b' → c ≡ c' → d ≡ d' → a' +ℤ b' ≡ c' +ℤ d' → a +ℤ b ≡ c +ℤ d
four ea eb ec ed e = ap₂ (λ (x y : ℤ). x +ℤ y) ea eb ∙ e ∙ sym (ap₂ (λ (x y : ℤ). x +ℤ y) ec ed)

cell_down : (i j h : ℕ) (z : ℤ) →
    cond (counts h i j) z (pos 0) +ℤ cond (eqb j (suc h)) z (pos 0) ≡ cond (counts (suc h) i j) z (pos 0) +ℤ cond (eqb (i + j) h) z (pos 0)
cell_down i j h z = go (dec_le j h) (dec_le (suc h) (i + j)) (ℕ_discrete (i + j) h) (ℕ_discrete j (suc h))
  where
    go : Dec (j ≤ h) → Dec (suc h ≤ i + j) → Dec (i + j ≡ h) → Dec (j ≡ suc h) →
        cond (counts h i j) z (pos 0) +ℤ cond (eqb j (suc h)) z (pos 0) ≡ cond (counts (suc h) i j) z (pos 0) +ℤ cond (eqb (i + j) h) z (pos 0)
    go (yes a) (yes b) c e = four (inside i j h z a (omega arith)) (left_out_eq j (suc h) z (λ q. omega arith)) (inside i j (suc h) z (omega arith) b) (left_out_eq (i + j) h z (λ q. omega arith)) refl
    go (yes a) (no b) (yes c) e = four (inside i j h z a (omega arith)) (left_out_eq j (suc h) z (λ q. omega arith)) (before i j (suc h) z (omega arith) (omega arith)) (passed_eq (i + j) h z c) (+ℤ_comm z (pos 0))
    go (yes a) (no b) (no c) e = four (before i j h z a (omega arith)) (left_out_eq j (suc h) z (λ q. omega arith)) (before i j (suc h) z (omega arith) (omega arith)) (left_out_eq (i + j) h z c) refl
    go (no a) b c (yes e) =
        four (right_of i j h z (omega arith)) (passed_eq j (suc h) z e)
        (inside i j (suc h) z (omega arith) (omega arith)) (left_out_eq (i + j) h z (λ q. omega arith)) (+ℤ_comm (pos 0) z)
    go (no a) b c (no e) =
        four (right_of i j h z (omega arith)) (left_out_eq j (suc h) z e)
        (right_of i j (suc h) z (omega arith)) (left_out_eq (i + j) h z (λ q. omega arith)) refl

-- T_h + v_{h+1} = T_{h+1} + d_h
pub corner_down : (s : List (List ℤ)) (h : ℕ) → corner_total s h +ℤ column_total s (suc h) ≡ corner_total s (suc h) +ℤ diagonal_total s h
unfolding corner_total column_total diagonal_total
corner_down s h = cells_pairs s (counts h) (λ i j. eqb j (suc h)) (counts (suc h)) (λ i j. eqb (i + j) h) (λ i j. cell_down i j h (cell_of s i j))

-- T_0 = v_0
pub corner_first : (s : List (List ℤ)) → corner_total s 0 ≡ column_total s 0
unfolding corner_total column_total
corner_first s = cells_same s (counts 0) (λ i j. eqb j 0) (λ i j. go i j (ℕ_discrete j 0))
  where
    go : (i j : ℕ) → Dec (j ≡ 0) → cond (counts 0 i j) (cell_of s i j) (pos 0) ≡ cond (eqb j 0) (cell_of s i j) (pos 0)
    go i j (yes e) = inside i j 0 (cell_of s i j) (omega arith) (omega arith) ∙ sym (passed_eq j 0 (cell_of s i j) e)
    go i j (no e) = right_of i j 0 (cell_of s i j) (omega arith) ∙ sym (left_out_eq j 0 (cell_of s i j) e)

-- T_k = d_k, where the years 0 to k are all
pub corner_last : (s : List (List ℤ)) (k : ℕ) → ZeroOutside s k → corner_total s k ≡ diagonal_total s k
unfolding corner_total diagonal_total
corner_last s k out = cells_same s (counts k) (λ i j. eqb (i + j) k) (λ i j. go i j (dec_le (suc k) (i + j)) (ℕ_discrete (i + j) k))
  where
    go : (i j : ℕ) → Dec (suc k ≤ i + j) → Dec (i + j ≡ k) → cond (counts k i j) (cell_of s i j) (pos 0) ≡ cond (eqb (i + j) k) (cell_of s i j) (pos 0)
    go i j (yes a) c = rw (out i j a) (zero_term (counts k i j) ∙ sym (zero_term (eqb (i + j) k)))
    go i j (no a) (yes e) = inside i j k (cell_of s i j) (omega arith) (omega arith) ∙ sym (passed_eq (i + j) k (cell_of s i j) e)
    go i j (no a) (no e) = before i j k (cell_of s i j) (omega arith) (omega arith) ∙ sym (left_out_eq (i + j) k (cell_of s i j) e)
