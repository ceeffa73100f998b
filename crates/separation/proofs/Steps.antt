-- The steps down the years: the running share of the year below, the factors with one year more, and the latest level. Assumes nothing.
use mathlib.Core.Path.{◌≡◌, sym}
use mathlib.Core.List.{List}
use Prim.Native.Nat.{ℕ, zero, suc, ◌+◌, ◌-◌, ◌*◌, ◌/◌, ◌≤◌, ◌<◌}
use native.Mathlib.Nat.{le_refl, not-suc-le-zero}
use native.Mathlib.Omega.{arith}
use lib.IntN.{ℤ}
use lib.ListN.{get_or}
use Rattle.rules.specs.Lists.{up_to, padded}
use Rattle.rules.specs.Separation.{billion, column_of, corner_of, running_down, running_of, share_of, level_of, no_factors}
use Rattle.rules.specs.declared.Factors.{Factors}
use Rattle.laws.proofs.Padded.{filled_more}
use Rattle.factors.proofs.Parts.{below_part_most}
use Rattle.corners.specs.Corners.{TotalsOf}
use Rattle.total_questions.specs.TotalQuestions.{Ready}
use Rattle.separation.specs.Walk.{with_year, factors_to, FactorsFound}

-- what the walk asks up to a year, it asks up to the year below
pub ready_below : (v d t : List ℕ) (h n : ℕ) → n ≤ h → Ready v d t h → Ready v d t n
ready_below v d t h n l r = record {
  rest = λ i p q. r.rest i p (omega arith);
  corner = λ i q. r.corner i (omega arith);
  diagonal = λ i q. r.diagonal i (omega arith);
}

module _ (s : List (List ℤ)) (k : ℕ) where
  -- the running share of the latest year is one whole
  pub latest_running : billion ≡ running_of s k k
  unfolding running_of running_down
  latest_running = let e : k - k ≡ 0 = omega arith in rw e

  -- the running share of the year below h
  pub running_below : (h : ℕ) → 1 ≤ h → h ≤ k → running_of s k (h - 1) ≡ running_of s k h * (corner_of s h - column_of s h) / corner_of s h
  unfolding running_of running_down
  running_below h p l =
      let e : k - (h - 1) ≡ suc (k - h) = omega arith in
      let b : k - (k - h) ≡ h = omega arith in
      rw (e, b)

  -- no running share is above that of a later year
  pub running_least : (h : ℕ) → h ≤ k → running_of s k 0 ≤ running_of s k h
  running_least zero l = le_refl (running_of s k 0)
  running_least (suc h) l =
      let e : suc h - 1 ≡ h = omega arith in
      let down = rw e at (running_below (suc h) (omega arith) l) in
      omega (arith, running_least h (omega arith), below_part_most (running_of s k (suc h)) (corner_of s (suc h)) (column_of s (suc h)))

  -- the share of a year above 0
  pub share_at_lem : (h : ℕ) → 1 ≤ h → share_of s k h ≡ running_of s k h - running_of s k (h - 1)
  unfolding share_of
  share_at_lem zero p = absurd (not-suc-le-zero p)
  share_at_lem (suc h) p = let e : suc h - 1 ≡ h = omega arith in rw e

  -- one year more stored
  stored_year : (h x y : ℕ) (f : Factors) → 1 ≤ h → h < 16 → f ≡ factors_to s k (h - 1) → x ≡ share_of s k h → y ≡ level_of s k h → with_year f h x y ≡ factors_to s k h
  unfolding factors_to
  stored_year h x y f p l e q r =
      let years : h - 1 + 1 ≡ h = omega arith in
      rw (e, q, r, years, filled_more 16 0 (share_of s k) h l, filled_more 16 0 (level_of s k) h l)

module _ (k : ℕ) (v d t : List ℕ) (a level : ℕ) where
  -- the level of year h as the code takes it
  level_is : (s : List (List ℤ)) (h : ℕ) → TotalsOf s k v d → h ≤ k → a ≡ running_of s k h → level ≡ get_or d h 0 * billion / a → level ≡ level_of s k h
  unfolding level_of
  level_is s h of l e q = rw (q, e, of.diagonal h l)

  -- the factors of year 0
  pub first_year : (h : ℕ) → h ≤ 0 → level ≡ get_or d h 0 * billion / a → FactorsFound k v d t a h (with_year (no_factors k) 0 a level)
  unfolding factors_to padded up_to share_of no_factors
  first_year zero p q s of corners l e = rw (level_is s 0 of l e q, e)
  first_year (suc h) p q s of corners l e = absurd (not-suc-le-zero p)

  -- those with one year more
  pub next_year : (h next : ℕ) (f : Factors) → 1 ≤ h → h < 16 → next ≡ a * (get_or t h 0 - get_or v h 0) / get_or t h 0 → level ≡ get_or d h 0 * billion / a
      → FactorsFound k v d t next (h - 1) f → FactorsFound k v d t a h (with_year f h (a - next) level)
  next_year h next f p few n q found s of corners l e =
      let below : next ≡ running_of s k (h - 1) = rw (n, e, of.column h l, corners h l) (sym (running_below s k h p l)) in
      stored_year s k h (a - next) level f p few (found s of corners (omega arith) below) (rw (below, e) (sym (share_at_lem s k h p))) (level_is s h of l e q)
