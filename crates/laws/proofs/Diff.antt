-- A signed number as a difference of whole numbers: `Is z a b` says z = a − b. An equation or an order of signed numbers becomes one of whole
-- numbers, which `omega` reads. Assumes nothing.
use mathlib.Core.Path.{◌≡◌, refl, sym, ap, subst}
use mathlib.Core.Bool.{Bool, true, false, not, cond}
use Prim.Native.Nat.{ℕ, zero, suc, ◌+◌, ◌*◌, ◌-◌, ◌≤◌, ◌<◌}
use native.Mathlib.Omega.{arith}
use lib.Dec.{T, ltb, ltb→lt, nltb→le, leb→le, le→leb, lt→ltb}
use lib.Signed.{◌≤ℤ◌, ◌<ℤ◌, le_z, lt_z}
use lib.IntN.{ℤ, pos, negsuc, neg_ℤ, nat_abs, sub_ℕ, ◌+ℤ◌, ◌-ℤ◌, ◌*ℤ◌}

-- z = a − b, by the sign of z
abbrev pub Raw : ℤ → ℕ → ℕ → Type 0
Raw (pos n) a b = a ≡ n + b
Raw (negsuc n) a b = b ≡ suc n + a

-- z = a − b, as a record, so that z, a and b can be inferred from a hypothesis
pub record Is (z : ℤ) (a b : ℕ) : Type 0 where
  pub raw : Raw z a b

-- the two parts of a signed number, of which one is 0
abbrev pub up : ℤ → ℕ
up (pos n) = n
up (negsuc n) = 0

abbrev pub dn : ℤ → ℕ
dn (pos n) = 0
dn (negsuc n) = suc n

self : (z : ℤ) → Raw z (up z) (dn z)
self (pos n) = omega arith
self (negsuc n) = omega arith

same : (z : ℤ) (a b c d : ℕ) → Raw z a b → a + d ≡ c + b → Raw z c d
same (pos n) a b c d h e = omega arith
same (negsuc n) a b c d h e = omega arith

eq : (z : ℤ) (a b c d : ℕ) → Raw z a b → Raw z c d → a + d ≡ c + b
eq (pos n) a b c d h k = omega arith
eq (negsuc n) a b c d h k = omega arith

not_both : (m n a b : ℕ) → a ≡ m + b → b ≡ suc n + a → ⊥
not_both m n a b h k = omega arith

eq_back : (z w : ℤ) (a b : ℕ) → Raw z a b → Raw w a b → z ≡ w
eq_back (pos m) (pos n) a b h k = ap pos (omega arith)
eq_back (pos m) (negsuc n) a b h k = absurd (not_both m n a b h k)
eq_back (negsuc m) (pos n) a b h k = absurd (not_both n m a b k h)
eq_back (negsuc m) (negsuc n) a b h k = ap negsuc (omega arith)

sub : (a b : ℕ) → Raw (sub_ℕ a b) a b
sub a b = go (ltb a b) refl
  where
    lt : ltb a b ≡ true → a < b
    lt e = ltb→lt a b (subst T (sym e) tt)

    ge : ltb a b ≡ false → b ≤ a
    ge e = nltb→le a b (subst (λ (c : Bool). T (not c)) (sym e) tt)

    go : (c : Bool) → ltb a b ≡ c → Raw (cond c (negsuc (b - suc a)) (pos (a - b))) a b
    go true e = omega (arith, lt e)
    go false e = omega (arith, ge e)

neg : (z : ℤ) (a b : ℕ) → Raw z a b → Raw (neg_ℤ z) b a
neg (pos zero) a b h = omega arith
neg (pos (suc n)) a b h = omega arith
neg (negsuc n) a b h = omega arith

add : (z w : ℤ) (a b c d : ℕ) → Raw z a b → Raw w c d → Raw (z +ℤ w) (a + c) (b + d)
add (pos m) (pos n) a b c d h k = omega arith
add (pos m) (negsuc n) a b c d h k = same (sub_ℕ m (suc n)) m (suc n) (a + c) (b + d) (sub m (suc n)) (omega arith)
add (negsuc m) (pos n) a b c d h k = same (sub_ℕ n (suc m)) n (suc m) (a + c) (b + d) (sub n (suc m)) (omega arith)
add (negsuc m) (negsuc n) a b c d h k = omega arith

of_pos : (n : ℕ) → Raw (pos n) n 0
of_pos n = omega arith

mul : (z w : ℤ) (a b c d : ℕ) → Raw z a b → Raw w c d → Raw (z *ℤ w) (a * c + b * d) (a * d + b * c)
mul (pos m) (pos n) a b c d h k = rw (h, k) (omega arith)
mul (pos m) (negsuc n) a b c d h k =
    same (neg_ℤ (pos (m * suc n))) 0 (m * suc n) _ _ (neg (pos (m * suc n)) _ _ (of_pos (m * suc n))) (rw (h, k) (omega arith))
mul (negsuc m) (pos n) a b c d h k =
    same (neg_ℤ (pos (suc m * n))) 0 (suc m * n) _ _ (neg (pos (suc m * n)) _ _ (of_pos (suc m * n))) (rw (h, k) (omega arith))
mul (negsuc m) (negsuc n) a b c d h k = rw (h, k) (omega arith)

abs : (z : ℤ) (a b c : ℕ) → Raw z a b → a < b + c → b < a + c → nat_abs z < c
abs (pos n) a b c h p q = omega arith
abs (negsuc n) a b c h p q = omega arith

le : (z w : ℤ) (a b c d : ℕ) → Raw z a b → Raw w c d → T (le_z z w) → a + d ≤ c + b
le (pos m) (pos n) a b c d h k t = omega (arith, leb→le m n t)
le (pos m) (negsuc n) a b c d h k t = absurd t
le (negsuc m) (pos n) a b c d h k t = omega arith
le (negsuc m) (negsuc n) a b c d h k t = omega (arith, leb→le n m t)

le_back : (z w : ℤ) (a b c d : ℕ) → Raw z a b → Raw w c d → a + d ≤ c + b → T (le_z z w)
le_back (pos m) (pos n) a b c d h k t = le→leb m n (omega arith)
le_back (pos m) (negsuc n) a b c d h k t = absurd (none m n a b c d h k t)
  where
    none : (m n a b c d : ℕ) → a ≡ m + b → d ≡ suc n + c → a + d ≤ c + b → ⊥
    none m n a b c d h k t = omega arith
le_back (negsuc m) (pos n) a b c d h k t = tt
le_back (negsuc m) (negsuc n) a b c d h k t = le→leb n m (omega arith)

lt_back : (z w : ℤ) (a b c d : ℕ) → Raw z a b → Raw w c d → a + d < c + b → T (lt_z z w)
lt_back (pos m) (pos n) a b c d h k t = lt→ltb m n (omega arith)
lt_back (pos m) (negsuc n) a b c d h k t = absurd (none m n a b c d h k t)
  where
    none : (m n a b c d : ℕ) → a ≡ m + b → d ≡ suc n + c → a + d < c + b → ⊥
    none m n a b c d h k t = omega arith
lt_back (negsuc m) (pos n) a b c d h k t = tt
lt_back (negsuc m) (negsuc n) a b c d h k t = lt→ltb n m (omega arith)

-- a signed number by its two parts
pub is_self : (z : ℤ) → Is z (up z) (dn z)
is_self z = record { raw = self z }

-- a whole number
pub is_pos : (n : ℕ) → Is (pos n) n 0
is_pos n = record { raw = of_pos n }

-- two differences that are one number
pub is_eq : {z : ℤ} {a b c d : ℕ} → Is z a b → Is z c d → a + d ≡ c + b
is_eq {z} {a} {b} {c} {d} h k = eq z a b c d h.raw k.raw

-- two equal numbers
pub is_eqs : {z w : ℤ} {a b c d : ℕ} → Is z a b → Is w c d → z ≡ w → a + d ≡ c + b
is_eqs {a} {b} h k e = is_eq (subst (λ (x : ℤ). Is x a b) e h) k

-- numbers whose differences agree are equal
pub eq_is : {z w : ℤ} {a b c d : ℕ} → Is z a b → Is w c d → a + d ≡ c + b → z ≡ w
eq_is {z} {w} {a} {b} {c} {d} h k e = eq_back z w c d (same z a b c d h.raw e) k.raw

-- the operations
pub is_neg : {z : ℤ} {a b : ℕ} → Is z a b → Is (neg_ℤ z) b a
is_neg {z} {a} {b} h = record { raw = neg z a b h.raw }

pub is_add : {z w : ℤ} {a b c d : ℕ} → Is z a b → Is w c d → Is (z +ℤ w) (a + c) (b + d)
is_add {z} {w} {a} {b} {c} {d} h k = record { raw = add z w a b c d h.raw k.raw }

pub is_minus : {z w : ℤ} {a b c d : ℕ} → Is z a b → Is w c d → Is (z -ℤ w) (a + d) (b + c)
is_minus h k = is_add h (is_neg k)

pub is_mul : {z w : ℤ} {a b c d : ℕ} → Is z a b → Is w c d → Is (z *ℤ w) (a * c + b * d) (a * d + b * c)
is_mul {z} {w} {a} {b} {c} {d} h k = record { raw = mul z w a b c d h.raw k.raw }

-- a bound on the size
pub is_abs : {z : ℤ} {a b : ℕ} (c : ℕ) → Is z a b → a < b + c → b < a + c → nat_abs z < c
is_abs {z} {a} {b} c h p q = abs z a b c h.raw p q

-- the orders
pub is_le : {z w : ℤ} {a b c d : ℕ} → Is z a b → Is w c d → z ≤ℤ w → a + d ≤ c + b
is_le {z} {w} {a} {b} {c} {d} h k t = le z w a b c d h.raw k.raw t.le

pub le_is : {z w : ℤ} {a b c d : ℕ} → Is z a b → Is w c d → a + d ≤ c + b → z ≤ℤ w
le_is {z} {w} {a} {b} {c} {d} h k t = record { le = le_back z w a b c d h.raw k.raw t }

pub lt_is : {z w : ℤ} {a b c d : ℕ} → Is z a b → Is w c d → a + d < c + b → z <ℤ w
lt_is {z} {w} {a} {b} {c} {d} h k t = record { lt = lt_back z w a b c d h.raw k.raw t }

-- the middle two of four terms change places
pub +ℤ-swap : (a b c d : ℤ) → (a +ℤ b) +ℤ (c +ℤ d) ≡ (a +ℤ c) +ℤ (b +ℤ d)
+ℤ-swap a b c d =
    eq_is
    (is_add (is_add (is_self a) (is_self b)) (is_add (is_self c) (is_self d)))
    (is_add (is_add (is_self a) (is_self c)) (is_add (is_self b) (is_self d)))
    (omega arith)
