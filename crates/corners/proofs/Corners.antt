-- The totals T from year k down: the next T, question 8 of one year, and what the loop has done at year h. Assumes nothing.
use mathlib.Core.Path.{◌≡◌, refl, sym, ap, subst, ◌∙◌}
use mathlib.Core.Bool.{Bool, true, false}
use mathlib.Core.List.{List}
use Prim.Native.Nat.{ℕ, suc, ◌+◌, ◌-◌, ◌*◌, ◌≤◌, ◌<◌}
use native.Mathlib.Decide.{dec_lt}
use native.Mathlib.Nat.{le_refl}
use native.Mathlib.Omega.{arith}
use borrow.Author.Tests.{ltb-true, lt-ltb, le-ltb}
use lib.Dec.{T, ltb}
use lib.IntN.{ℤ, pos, nat_abs, ◌+ℤ◌, ◌-ℤ◌}
use lib.ListN.{length, get_or, set, length-set}
use lib.Signed.{le_z, le_z_yes}
use Rattle.rules.specs.Triangle.{column_total, corner_total}
use Rattle.rules.specs.Separation.{billion, corner_of, years1, rests_pass}
use Rattle.laws.proofs.Diff.{is_self, is_pos, is_add, is_minus, is_eqs, eq_is, is_le, le_is}
use Rattle.laws.proofs.Lists.{length_up_to, get_d_up_to, same_answer, every_fails, every_yes, stored}
use Rattle.totals.proofs.Corners.{corner_down, corner_last}
use Rattle.totals.proofs.Whole.{column_is, diagonal_is}
use Rattle.corners.specs.Corners.{TotalsOf, CornersOf}

-- T_{h−1}, by T_h = c above the column v
next_corner : (t : ℤ) (c v d : ℕ) → t +ℤ pos v ≡ pos c +ℤ pos d → v < c → t ≡ pos (c - v + d)
next_corner t c v d e l =
    eq_is (is_self t) (is_pos (c - v + d)) (omega (arith, is_eqs (is_add (is_self t) (is_pos v)) (is_add (is_pos c) (is_pos d)) e))

-- a test that holds, as an equation
holds : (b : Bool) → T b → b ≡ true
holds true h = refl
holds false h = absurd h

-- question 8 of one year, in whole numbers
pub rest_test : (c v : ℕ) → le_z (pos 1) (pos c -ℤ pos v) ≡ ltb v c
rest_test c v = same_answer _ _ there back
  where
    there : le_z (pos 1) (pos c -ℤ pos v) ≡ true → ltb v c ≡ true
    there e = lt-ltb v c (omega (arith, is_le (is_pos 1) (is_minus (is_pos c) (is_pos v)) (le_z_yes (subst T (sym e) tt))))

    back : ltb v c ≡ true → le_z (pos 1) (pos c -ℤ pos v) ≡ true
    back e = let l = ltb-true v c e in holds _ (le_is (is_pos 1) (is_minus (is_pos c) (is_pos v)) (omega arith)).le

-- and of year h of a square
abbrev pub rest_passes : List (List ℤ) → ℕ → Bool
rest_passes s h = le_z (pos 1) (corner_total s h -ℤ column_total s h)

-- the years from h on of a square whose T_h is t: each T in its place, and question 8 says yes above h
pub record From (s : List (List ℤ)) (k : ℕ) (totals : List ℕ) (t h : ℕ) : Type 0 where
  pub value : corner_total s h ≡ pos t
  pub filled : (i : ℕ) → h ≤ i → i ≤ k → get_or totals i 0 ≡ corner_of s i
  pub passed : (i : ℕ) → h < i → i ≤ k → rest_passes s i ≡ true

-- what the loop has done when T_h is t
pub record CornersDone (v d : List ℕ) (k : ℕ) (totals : List ℕ) (t h : ℕ) : Type 0 where
  pub years : h ≤ k
  pub small : t ≤ billion * (k - h + 1)
  pub long : length totals ≡ 16
  pub found : (s : List (List ℤ)) → TotalsOf s k v d → From s k totals t h

module _ (v d : List ℕ) (k : ℕ) (few : k < 16) (totals : List ℕ) where
  -- T_h is in place
  placed : (s : List (List ℤ)) (t h : ℕ) → h < length totals → corner_total s h ≡ pos t
      → ((i : ℕ) → h < i → i ≤ k → get_or totals i 0 ≡ corner_of s i) → (i : ℕ) → h ≤ i → i ≤ k → get_or (set totals h t) i 0 ≡ corner_of s i
  unfolding corner_of
  placed s t h l e above i p q = stored totals h t 0 (corner_of s) l (sym (ap nat_abs e)) i (λ ne. above i (omega (arith, ne)) q)

  -- the first T is the last diagonal
  pub start : get_or d k 0 ≤ billion → length totals ≡ 16 → CornersDone v d k (set totals k (get_or d k 0)) (get_or d k 0) k
  start most long = record {
    years = le_refl k;
    small = omega arith;
    long = length-set totals k (get_or d k 0) ∙ long;
    found = λ s of.
        let value = corner_last s k of.outside ∙ diagonal_is s k of.pass k (le_refl k) ∙ ap pos (sym (of.diagonal k (le_refl k))) in
        record { value = value; filled = placed s (get_or d k 0) k (omega arith) value (λ i p q. absurd (omega arith)); passed = λ i p q. absurd (omega arith) };
  }

  module _ (t h : ℕ) (done : CornersDone v d k totals t h) where
    -- question 8 of year h
    year : (s : List (List ℤ)) → TotalsOf s k v d → rest_passes s h ≡ ltb (get_or v h 0) t
    year s of =
        rw ((done.found s of).value, column_is s k of.pass h done.years, ← of.column h done.years) (rest_test t (get_or v h 0))

    -- T is not above its column
    pub fails : 1 ≤ h → t ≤ get_or v h 0 → (s : List (List ℤ)) → TotalsOf s k v d → rests_pass s k ≡ false
    unfolding rests_pass
    fails some l s of =
        let e : h - 1 + 1 ≡ h = omega arith in
        let years : h - 1 < length (years1 k) = omega (arith, length_up_to (λ h. h + 1) k, done.years) in
        let at : get_or (years1 k) (h - 1) 0 ≡ h = get_d_up_to (λ h. h + 1) k (h - 1) 0 (omega (arith, done.years)) ∙ e in
        every_fails (rest_passes s) (years1 k) (h - 1) 0 years (rw at (year s of ∙ le-ltb (get_or v h 0) t l))

    -- T is above its column: the next T
    pub goes_on : 1 ≤ h → get_or v h 0 < t → get_or d (h - 1) 0 ≤ billion
        → CornersDone v d k (set totals (h - 1) (t - get_or v h 0 + get_or d (h - 1) 0)) (t - get_or v h 0 + get_or d (h - 1) 0) (h - 1)
    goes_on some l most = record {
      years = omega (arith, done.years);
      small = omega (arith, done.years, done.small);
      long = length-set totals (h - 1) next ∙ done.long;
      found = λ s of. record {
        value = value s of;
        filled = placed s next (h - 1) (omega (arith, done.years, done.long)) (value s of) (λ i p q. (done.found s of).filled i (omega arith) q);
        passed = λ i p q. passes s of i (omega arith) q;
      };
    }
      where
        next : ℕ
        next = t - get_or v h 0 + get_or d (h - 1) 0

        value : (s : List (List ℤ)) → TotalsOf s k v d → corner_total s (h - 1) ≡ pos next
        value s of =
            let up : suc (h - 1) ≡ h = omega arith in
            let column = column_is s k of.pass h done.years ∙ ap pos (sym (of.column h done.years)) in
            let diagonal = diagonal_is s k of.pass (h - 1) (omega (arith, done.years)) ∙ ap pos (sym (of.diagonal (h - 1) (omega (arith, done.years)))) in
            next_corner (corner_total s (h - 1)) t (get_or v h 0) (get_or d (h - 1) 0) (rw (up, column, (done.found s of).value, diagonal) at (corner_down s (h - 1))) l

        passes : (s : List (List ℤ)) → TotalsOf s k v d → (i : ℕ) → h ≤ i → i ≤ k → rest_passes s i ≡ true
        passes s of i p q = go (dec_lt h i)
          where
            go : Dec (h < i) → rest_passes s i ≡ true
            go (yes a) = (done.found s of).passed i a q
            go (no a) = let e : i ≡ h = omega arith in rw e (year s of ∙ lt-ltb (get_or v h 0) t l)

  -- every T is in its place
  pub all : (t : ℕ) → CornersDone v d k totals t 0 → (s : List (List ℤ)) → TotalsOf s k v d → (rests_pass s k ≡ true) × CornersOf s k totals
  unfolding rests_pass
  all t done s of = (
    every_yes (rest_passes s) (λ h. h + 1) k (λ i l. (done.found s of).passed (i + 1) (omega arith) (omega arith)),
    λ i l. (done.found s of).filled i (omega arith) l,
  )
