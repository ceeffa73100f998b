-- Every exact solution of Taylor's equations, of whatever signs: no share is negative, and each printed share is near its own. Assumes nothing.
use mathlib.Core.Path.{◌≡◌, refl}
use Prim.Native.Nat.{ℕ, zero, suc, ◌+◌, ◌*◌, ◌-◌, ◌≤◌, ◌<◌}
use native.Mathlib.Omega.{arith}
use lib.IntN.{ℤ, pos, negsuc, nat_abs, ◌-ℤ◌, ◌*ℤ◌}
use Rattle.rules.specs.Lists.{total, up_to}
use Rattle.rules.specs.Triangle.{sum_to}
use Rattle.rules.specs.Exact.{sum_from, Solves}
use Rattle.laws.proofs.Diff.{Is, up, dn, is_self, is_pos, is_add, is_minus, is_mul, is_eqs, is_abs}
use Rattle.laws.proofs.Totals.{total_none, total_more, total_from}
use Rattle.totals.proofs.Whole.{Totals}
use Rattle.accuracy.proofs.Pairs.{Pairs, share_sign}
use Rattle.accuracy.proofs.Rounding.{Running, shares}

-- sums of signed terms, through whole ones
is_sum : (f : ℕ → ℤ) (n : ℕ) → Is (sum_to f n) (total (up_to (λ i. up (f i)) n)) (total (up_to (λ i. dn (f i)) n))
unfolding sum_to
is_sum f zero = rw (total_none (λ i. up (f i)), total_none (λ i. dn (f i))) (is_pos 0)
is_sum f (suc n) = rw (total_more (λ i. up (f i)) n, total_more (λ i. dn (f i)) n) (is_add (is_sum f n) (is_self (f n)))

is_from : (f : ℕ → ℤ) (a n : ℕ) → Is (sum_from f a n) (total (up_to (λ i. up (f (a + i))) n)) (total (up_to (λ i. dn (f (a + i))) n))
unfolding sum_from
is_from f a zero = rw (total_none (λ i. up (f (a + i))), total_none (λ i. dn (f (a + i)))) (is_pos 0)
is_from f a (suc n) = rw (total_from (λ i. up (f i)) a n, total_from (λ i. dn (f i)) a n) (is_add (is_self (f a)) (is_from f (suc a) n))

not_negative : (z : ℤ) → dn z ≤ up z → z ≡ pos (nat_abs z)
not_negative (pos n) h = refl
not_negative (negsuc n) h = absurd (none n h)
  where
    none : (n : ℕ) → suc n ≤ 0 → ⊥
    none n h = omega arith

module _ (k D E : ℕ) (v d x y : ℕ → ℤ) (vN dN : ℕ → ℕ)
    (ev : (j : ℕ) → j ≤ k → v j ≡ pos (vN j)) (ed : (h : ℕ) → h ≤ k → d h ≡ pos (dN h)) (s : Solves k D E v d x y) where
  pairs : Pairs k D E vN dN (λ i. up (x i)) (λ i. dn (x i)) (λ i. up (y i)) (λ i. dn (y i))
  pairs = record {
    shares = s.shares;
    levels = s.levels;
    whole = omega (arith, is_eqs (is_sum x (suc k)) (is_pos D) s.whole);
    diagonal = λ h le.
        omega (arith, is_eqs (is_mul (is_self (y h)) (is_sum x (suc h))) (is_mul (is_pos (dN h)) (is_pos (D * E))) (rw (ed h le) at (s.diagonal h le)));
    column = λ j le.
        omega (arith, is_eqs (is_mul (is_self (x j)) (is_from y j (suc k - j))) (is_mul (is_pos (vN j)) (is_pos (D * E))) (rw (ev j le) at (s.column j le)));
  }

  -- the share numerators of every solution are whole numbers
  pub solution_positive : (T : ℕ → ℕ) → Totals k vN dN T → (j : ℕ) → j ≤ k → x j ≡ pos (nat_abs (x j))
  solution_positive T tot j le =
      not_negative (x j) (share_sign k D E vN dN T (λ i. up (x i)) (λ i. dn (x i)) (λ i. up (y i)) (λ i. dn (y i)) tot pairs j le)

  -- the printed shares r beside those of every solution
  pub solution_near : (S : ℕ) (T A r : ℕ → ℕ) → Totals k vN dN T → Running k S vN T A r → (j : ℕ) → j ≤ k →
      nat_abs ((pos S *ℤ x j) -ℤ pos (r j * D)) < (suc k - j) * D
  solution_near S T A r tot run j le =
      let b = shares k S D E vN dN T (λ i. up (x i)) (λ i. dn (x i)) (λ i. up (y i)) (λ i. dn (y i)) A r tot pairs run j le in
      is_abs ((suc k - j) * D) (is_minus (is_mul (is_pos S) (is_self (x j))) (is_pos (r j * D))) (omega (arith, b.0)) (omega (arith, b.1))
