-- Products of signed numbers: which factors are positive, and what may be cancelled. Assumes nothing.
use mathlib.Core.Path.{◌≡◌, refl, sym, ◌∙◌, ap}
use Prim.Native.Nat.{ℕ, zero, suc, ◌+◌, ◌*◌, ◌<◌}
use native.Mathlib.Nat.{mul-pos, lt_of_mul-lt-mul_right, eq_of_mul-eq-mul_right}
use native.Mathlib.Omega.{arith}
use lib.Dec.{ltb→lt}
use lib.IntN.{ℤ, pos, negsuc, nat_abs, ◌*ℤ◌, *ℤ-zero, pos-*ℤ-pos}
use lib.Signed.{◌≤ℤ◌, ◌<ℤ◌}
use Rattle.laws.proofs.Diff.{up, dn, is_self, is_pos, is_mul, is_eqs, eq_is, is_le, le_is, lt_is}

-- a positive number is a whole number from 1 on
above_zero : (z : ℤ) → pos 0 <ℤ z → (z ≡ pos (nat_abs z)) × (0 < nat_abs z)
above_zero (pos n) h = (refl, ltb→lt 0 n h.lt)
above_zero (negsuc n) h = absurd h.lt

pub whole_positive : (n : ℕ) → 0 < n → pos 0 <ℤ pos n
whole_positive n h = lt_is (is_pos 0) (is_pos n) (omega arith)

pub from_one : (z : ℤ) → pos 1 ≤ℤ z → pos 0 <ℤ z
from_one z h = lt_is (is_pos 0) (is_self z) (omega (arith, is_le (is_pos 1) (is_self z) h))

pub above_not_zero : (z : ℤ) → pos 0 <ℤ z → z ≡ pos 0 → ⊥
above_not_zero z h e = absurd (rw e at h).lt

less : (n a b c : ℕ) → 0 < c → n * a ≡ c + n * b → b < a
less n a b c p e = lt_of_mul-lt-mul_right n (omega arith)

-- x × u is z × F: where x and u are positive, z is at least 1
pub product_above : (x u z : ℤ) (F : ℕ) → pos 0 <ℤ x → pos 0 <ℤ u → x *ℤ u ≡ z *ℤ pos F → pos 1 ≤ℤ z
product_above x u z F xp up' e =
    let a = above_zero x xp in
    let b = above_zero u up' in
    let e' : pos (nat_abs x) *ℤ pos (nat_abs u) ≡ z *ℤ pos F = rw (a.0, b.0) at e in
    le_is (is_pos 1) (is_self z)
    (omega (arith, less F (up z) (dn z) (nat_abs x * nat_abs u) (mul-pos a.1 b.1) (omega (arith, is_eqs (is_mul (is_pos (nat_abs x)) (is_pos (nat_abs u))) (is_mul (is_self z) (is_pos F)) e'))))

-- where x and z are positive, so is u
pub factor_above : (x u z : ℤ) (F : ℕ) → 0 < F → pos 0 <ℤ x → pos 0 <ℤ z → x *ℤ u ≡ z *ℤ pos F → pos 0 <ℤ u
factor_above x u z F f xp zp e =
    let a = above_zero x xp in
    let b = above_zero z zp in
    let e' : pos (nat_abs x) *ℤ u ≡ pos (nat_abs z) *ℤ pos F = rw (a.0, b.0) at e in
    lt_is (is_pos 0) (is_self u)
    (omega (arith, less (nat_abs x) (up u) (dn u) (nat_abs z * F) (mul-pos b.1 f) (omega (arith, is_eqs (is_mul (is_pos (nat_abs x)) (is_self u)) (is_mul (is_pos (nat_abs z)) (is_pos F)) e'))))

-- a factor that is not zero is cancelled
pub cancel : (a b c : ℤ) → (a ≡ pos 0 → ⊥) → a *ℤ b ≡ a *ℤ c → b ≡ c
cancel (pos zero) b c n e = absurd (n refl)
cancel (pos (suc m)) b c n e =
    let f = is_eqs (is_mul (is_pos (suc m)) (is_self b)) (is_mul (is_pos (suc m)) (is_self c)) e in
    eq_is (is_self b) (is_self c) (eq_of_mul-eq-mul_right (suc m) (omega arith) (up b + dn c) (up c + dn b) (omega (arith, f)))
cancel (negsuc m) b c n e =
    let f = is_eqs (is_mul (is_self (negsuc m)) (is_self b)) (is_mul (is_self (negsuc m)) (is_self c)) e in
    eq_is (is_self b) (is_self c) (eq_of_mul-eq-mul_right (suc m) (omega arith) (up b + dn c) (up c + dn b) (omega (arith, f)))

-- a product with a denominator is zero only where the number is
pub times_not_zero : (a : ℤ) (D : ℕ) → 0 < D → (a ≡ pos 0 → ⊥) → a *ℤ pos D ≡ pos 0 → ⊥
times_not_zero a D p n e = omega (arith, is_eqs (is_pos D) (is_pos 0) (cancel a (pos D) (pos 0) n (e ∙ sym (*ℤ-zero a))))

-- the factors of two products exchanged
exchange : (a b c d : ℤ) → (a *ℤ c) *ℤ (b *ℤ d) ≡ (a *ℤ b) *ℤ (c *ℤ d)
exchange a b c d =
    eq_is (is_mul (is_mul (is_self a) (is_self c)) (is_mul (is_self b) (is_self d))) (is_mul (is_mul (is_self a) (is_self b)) (is_mul (is_self c) (is_self d)))
    (omega arith)

last_two : (a b c : ℤ) → (a *ℤ b) *ℤ c ≡ (a *ℤ c) *ℤ b
last_two a b c = eq_is (is_mul (is_mul (is_self a) (is_self b)) (is_self c)) (is_mul (is_mul (is_self a) (is_self c)) (is_self b)) (omega arith)

-- a / D × b / E and x / F × y / G are both z: where a / D is not zero and is x / F, b / E is y / G
pub cross : (a b x y z : ℤ) (D E F G : ℕ) → 0 < F → (a ≡ pos 0 → ⊥)
    → a *ℤ b ≡ z *ℤ pos (D * E) → x *ℤ y ≡ z *ℤ pos (F * G) → a *ℤ pos F ≡ x *ℤ pos D → b *ℤ pos G ≡ y *ℤ pos E
cross a b x y z D E F G fp n e f g =
    cancel (a *ℤ pos F) (b *ℤ pos G) (y *ℤ pos E) (times_not_zero a F fp n)
    (exchange a b (pos F) (pos G)
    ∙ ap (λ (t : ℤ). t *ℤ (pos F *ℤ pos G)) e
    ∙ ap (λ (t : ℤ). (z *ℤ pos (D * E)) *ℤ t) (pos-*ℤ-pos F G)
    ∙ last_two z (pos (D * E)) (pos (F * G))
    ∙ sym (
    ap (λ (t : ℤ). t *ℤ (y *ℤ pos E)) g
    ∙ exchange x y (pos D) (pos E)
    ∙ ap (λ (t : ℤ). t *ℤ (pos D *ℤ pos E)) f
    ∙ ap (λ (t : ℤ). (z *ℤ pos (F * G)) *ℤ t) (pos-*ℤ-pos D E)
    ))
