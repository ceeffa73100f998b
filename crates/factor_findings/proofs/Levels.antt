-- The finding of question 10 by the factors that the walk leaves. Assumes nothing.
use mathlib.Core.Path.{◌≡◌, refl, sym, ap, ◌∙◌}
use mathlib.Core.Bool.{true, false}
use mathlib.Core.List.{List}
use Prim.Native.Nat.{ℕ, zero, suc, ◌+◌, ◌-◌, ◌*◌, ◌^◌, ◌≤◌, ◌<◌}
use native.Mathlib.Nat.{div-le_self}
use native.Mathlib.Numerals.{add-one}
use native.Mathlib.Omega.{arith}
use lib.Dec.{leb}
use lib.IntN.{ℤ, pos}
use lib.ListN.{get_or, take}
use mir.Syntax.{w64}
use mir.Val.{SFits, to_z}
use mir.ValLaws.{to_z_pos}
use mir.Facts.{to_z-of_z}
use Rattle.laws.proofs.Signed.{held}
use Rattle.rules.specs.Lists.{total, up_to, below, every}
use Rattle.rules.specs.Questions.{after_call}
use Rattle.rules.specs.Separation.{billion, diagonal_of, running_of, share_of, level_of, totals_pass, rests_pass, levels_pass, factors_of, no_factors}
use Rattle.rules.specs.declared.Factors.{Factors}
use Rattle.laws.proofs.Lists.{every_same, total_take}
use Rattle.laws.proofs.Padded.{filled_at}
use Rattle.laws.proofs.Joined.{padded_all, up_to_all}
use Rattle.laws.proofs.Totals.{total_more}
use Rattle.totals.proofs.TotalsMost.{running_most, diagonal_most}
use Rattle.totals.proofs.Whole.{diagonal_is}
use Rattle.totals.specs.Summed.{Summed}
use Rattle.total_questions.specs.TotalQuestions.{totals_answer}
use Rattle.total_questions.proofs.TotalQuestions.{answer_none}
use Rattle.reasons.proofs.Counted.{leading_same, counted, stops_below}
use Rattle.finding.specs.Places.{payment_year, found}
use Rattle.triangle_findings.proofs.Totals.{diagonal_at}
use Rattle.factor_findings.specs.FactorFindings.{refused_level, level_found, level_finding}
use Rattle.factor_findings.proofs.Running.{shares_sum}

-- the year that question 10 says no of, of any levels
pub level_refused : (l : ℕ → ℕ) (k : ℕ) → every (λ h. leb (l h) billion) (below (k + 1)) ≡ false → (refused_level l k < k + 1) × (leb (l (refused_level l k)) billion ≡ false)
unfolding refused_level
level_refused l k no10 =
    let m = stops_below (λ h. leb (l h) billion) (k + 1) no10 in
    (m, (counted (λ h. leb (l h) billion) (k + 1)).stop m)

-- as the code holds it: none of the three leaves 64 bits
pub held_found : (d : ℕ → ℤ) (a l : ℕ → ℕ) (k h running : ℕ) → h ≡ refused_level l k → SFits w64 (d h) → running ≡ a h → a h < 2 ^ 63 → l h < 2 ^ 63
    → found payment_year h 0 (held (d h)) (to_z w64 running) (to_z w64 (l h)) ≡ level_found d a l k
unfolding level_found
held_found d a l k h running e fits is la ll = rw (is, to_z-of_z fits, to_z_pos w64 (a h) la, to_z_pos w64 (l h) ll, sym e)

-- of the same figures the same finding
level_same : (d e : ℕ → ℤ) (a b l m : ℕ → ℕ) (k : ℕ) → ((i : ℕ) → i < k + 1 → d i ≡ e i) → ((i : ℕ) → i < k + 1 → a i ≡ b i) → ((i : ℕ) → i < k + 1 → l i ≡ m i)
    → every (λ h. leb (m h) billion) (below (k + 1)) ≡ false → level_found d a l k ≡ level_found e b m k
unfolding level_found refused_level
level_same d e a b l m k f g s no10 =
    let less = (level_refused m k no10).0 in
    let h = refused_level m k in
    rw (leading_same (λ h. leb (l h) billion) (λ h. leb (m h) billion) (k + 1) (λ i n. ap (λ (z : ℕ). leb z billion) (s i n)), f h less, g h less, s h less)

-- no share is above S
share_most : (q : List (List ℤ)) (k i : ℕ) → share_of q k i ≤ billion
unfolding share_of
share_most q k zero = running_most q k 0
share_most q k (suc h) = omega (arith, running_most q k (suc h))

-- the factors f of the square q, whose totals are v and d, where questions 7 and 8 say yes
module _ (q : List (List ℤ)) (k : ℕ) (few : k < 16) (v d : List ℤ) (of : Summed q k v d) (yes7 : totals_pass q k ≡ true) (f : Factors) (is : f ≡ factors_of q k) where
  -- no level is above S × S
  level_most : (i : ℕ) → i < k + 1 → level_of q k i ≤ billion * billion
  unfolding level_of
  level_most i l =
      omega (arith, div-le_self (diagonal_of q i * billion) (running_of q k i), diagonal_most q k few of.outside yes7 i (omega arith))

  -- the shares and the levels in their arrays
  pub shares_small : (i : ℕ) → get_or f.shares i 0 ≤ billion
  unfolding factors_of
  shares_small =
      rw is
      (padded_all (λ x. x ≤ billion) 0 (omega arith) 16 0 (omega arith) (up_to (share_of q k) (k + 1))
      (up_to_all (λ x. x ≤ billion) 0 (omega arith) (share_of q k) (k + 1) (λ i l. share_most q k i)))

  pub levels_small : (i : ℕ) → get_or f.levels i 0 ≤ billion * billion
  unfolding factors_of
  levels_small =
      rw is
      (padded_all (λ x. x ≤ billion * billion) 0 (omega arith) 16 0 (omega arith) (up_to (level_of q k) (k + 1))
      (up_to_all (λ x. x ≤ billion * billion) 0 (omega arith) (level_of q k) (k + 1) level_most))

  level_at : (i : ℕ) → i < k + 1 → get_or f.levels i 0 ≡ level_of q k i
  unfolding factors_of
  level_at i l = rw is (filled_at 16 0 (level_of q k) (k + 1) i 0 l)

  share_at_lem : (i : ℕ) → i < k + 1 → get_or f.shares i 0 ≡ share_of q k i
  unfolding factors_of
  share_at_lem i l = rw is (filled_at 16 0 (share_of q k) (k + 1) i 0 l)

  taken : (i : ℕ) → i ≤ k + 1 → total (take i f.shares) ≡ total (up_to (share_of q k) i)
  unfolding total up_to
  taken zero l = refl
  taken (suc i) l = omega (arith, rw (add-one i) at (total_take f.shares i), taken i (omega arith), total_more (share_of q k) i, share_at_lem i l)

  running_at : (i : ℕ) → i < k + 1 → total (take (i + 1) f.shares) ≡ running_of q k i
  running_at i l = rw (add-one i) (taken (suc i) l ∙ shares_sum q k i (omega arith))

  diagonal_in : (i : ℕ) → i < k + 1 → get_or d i (pos 0) ≡ pos (diagonal_of q i)
  diagonal_in i l = diagonal_at q k few v d of i l ∙ diagonal_is q k yes7 i (omega arith)

  module _ (no10 : levels_pass q k ≡ false) where
    pub levels_in_lem : (n : ℕ) → n ≡ k → every (λ h. leb (get_or f.levels h 0) billion) (below (n + 1)) ≡ false
    unfolding levels_pass
    levels_in_lem n e =
        rw e
        (every_same (λ h. leb (get_or f.levels h 0) billion) (λ h. leb (level_of q k h) billion) (λ h. h) (λ h. h) (k + 1) (λ i l. ap (λ (z : ℕ). leb z billion) (level_at i l)) ∙ no10)

    pub level_is : (n : ℕ) → n ≡ k → level_found (λ h. get_or d h (pos 0)) (λ h. total (take (h + 1) f.shares)) (λ h. get_or f.levels h 0) n ≡ level_finding q k
    unfolding level_finding levels_pass
    level_is n e =
        rw e
        (level_same (λ h. get_or d h (pos 0)) (λ h. pos (diagonal_of q h)) (λ h. total (take (h + 1) f.shares)) (running_of q k) (λ h. get_or f.levels h 0) (level_of q k) k
        diagonal_in running_at level_at no10)

-- the factors that the walk over the totals leaves where questions 7 and 8 say yes
factors_are : (q : List (List ℤ)) (k : ℕ) → totals_pass q k ≡ true → rests_pass q k ≡ true → (f : Factors) → f ≡ after_call (totals_answer q k) (factors_of q k) (no_factors k) → f ≡ factors_of q k
unfolding after_call
factors_are q k yes7 yes8 f e = rw (sym (answer_none q k yes7 yes8)) at e

pub walked : (q : List (List ℤ)) (k : ℕ) (v d : List ℤ) → Summed q k v d → totals_pass q k ≡ true → rests_pass q k ≡ true → (n : ℕ) → n ≡ k → (f : Factors)
    → ((s : List (List ℤ)) → Summed s n v d → f ≡ after_call (totals_answer s n) (factors_of s n) (no_factors n)) → f ≡ factors_of q k
walked q k v d of yes7 yes8 n e f walk = factors_are q k yes7 yes8 f (rw e at (walk q (rw e of)))

-- question 10 says no of the year that is found
pub level_no : (q : List (List ℤ)) (k : ℕ) → levels_pass q k ≡ false → (leb (level_of q k (level_finding q k).row) billion ≡ false) × ((level_finding q k).row ≤ k)
unfolding level_finding level_found levels_pass
level_no q k no10 = let refused = level_refused (level_of q k) k no10 in (refused.1, omega (arith, refused.0))
