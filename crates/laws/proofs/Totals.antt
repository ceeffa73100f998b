-- Sums of whole numbers: of lists, of the first n of a sequence, and of the years from a first to a last. Assumes nothing.
use mathlib.Core.Path.{◌≡◌, refl, sym, ◌∙◌, ap, ap₂}
use mathlib.Core.List.{List, [], ◌∷◌, ◌++◌}
use Prim.Native.Nat.{ℕ, zero, suc, ◌+◌, ◌-◌, ◌≤◌, ◌<◌, ◌*◌}
use native.Mathlib.Nat.{not-suc-le-zero, le_refl}
use native.Mathlib.Omega.{arith}
use native.Mathlib.Decide.{dec_le, ℕ_discrete}
use lib.IntN.{ℤ, pos, ◌+ℤ◌, +ℤ_idr, +ℤ_assoc}
use lib.ListN.{get_or, take}
use Rattle.rules.specs.Lists.{total, up_to}
use Rattle.rules.specs.Triangle.{sum_to}
use Rattle.rules.specs.Exact.{from_to}
use Rattle.laws.proofs.Lists.{total_take}

-- two lists, one after the other
pub total_append : (xs ys : List ℕ) → total (xs ++ ys) ≡ total xs + total ys
unfolding total
total_append [] ys = omega arith
total_append (x ∷ xs) ys = omega (arith, total_append xs ys)

-- no number
pub total_none : (f : ℕ → ℕ) → total (up_to f 0) ≡ 0
unfolding up_to total
total_none f = refl

-- one number more
pub total_more : (f : ℕ → ℕ) (n : ℕ) → total (up_to f (suc n)) ≡ total (up_to f n) + f n
unfolding up_to total
total_more f n = omega (arith, total_append (up_to f n) (f n ∷ []))

-- the first number taken off
pub total_first : (f : ℕ → ℕ) (n : ℕ) → total (up_to f (suc n)) ≡ f 0 + total (up_to (λ i. f (suc i)) n)
total_first f zero = omega (arith, total_more f 0, total_none f, total_none (λ i. f (suc i)))
total_first f (suc n) = omega (arith, total_more f (suc n), total_first f n, total_more (λ i. f (suc i)) n)

-- number by number
pub total_same : (f g : ℕ → ℕ) (n : ℕ) → ((i : ℕ) → i < n → f i ≡ g i) → total (up_to f n) ≡ total (up_to g n)
total_same f g zero e = omega (arith, total_none f, total_none g)
total_same f g (suc n) e = omega (arith, total_more f n, total_more g n, total_same f g n (λ i lt. e i (omega arith)), e n (omega arith))

-- the first of the numbers from a on taken off
pub total_from : (f : ℕ → ℕ) (a n : ℕ) → total (up_to (λ i. f (a + i)) (suc n)) ≡ f a + total (up_to (λ i. f (suc a + i)) n)
total_from f a n =
    let e : a + 0 ≡ a = omega arith in
    omega (
      arith,
      total_first (λ i. f (a + i)) n,
      ap f e,
      total_same (λ i. f (a + suc i)) (λ i. f (suc a + i)) n (λ i l. let p : a + suc i ≡ suc a + i = omega arith in ap f p),
    )

-- one of the numbers
pub total_at : (f : ℕ → ℕ) (n i : ℕ) → i < n → f i ≤ total (up_to f n)
total_at f zero i lt = absurd (not-suc-le-zero lt)
total_at f (suc n) i lt = go (total_at f n i) (ℕ_discrete n i)
  where
    go : (i < n → f i ≤ total (up_to f n)) → Dec (n ≡ i) → f i ≤ total (up_to f (suc n))
    go below (yes e) = omega (arith, total_more f n, ap f e)
    go below (no e) = omega (arith, total_more f n, below (omega arith))

-- the first of the numbers
pub total_part : (f : ℕ → ℕ) (m n : ℕ) → m ≤ n → total (up_to f m) ≤ total (up_to f n)
total_part f m zero le = let e : m ≡ 0 = omega arith in rw e (le_refl _)
total_part f m (suc n) le = go (total_part f m n) (dec_le m n)
  where
    go : (m ≤ n → total (up_to f m) ≤ total (up_to f n)) → Dec (m ≤ n) → total (up_to f m) ≤ total (up_to f (suc n))
    go below (yes l) = omega (arith, total_more f n, below l)
    go below (no l) = let e : m ≡ suc n = omega arith in rw e (le_refl _)

-- a sum of signed terms that are whole numbers
pub sum_to_pos : (f : ℕ → ℤ) (g : ℕ → ℕ) (n : ℕ) → ((i : ℕ) → i < n → f i ≡ pos (g i)) → sum_to f n ≡ pos (total (up_to g n))
unfolding sum_to
sum_to_pos f g zero e = ap pos (sym (total_none g))
sum_to_pos f g (suc n) e = ap₂ (λ (x y : ℤ). x +ℤ y) (sum_to_pos f g n (λ i l. e i (omega arith))) (e n (omega arith)) ∙ ap pos (sym (total_more g n))

-- one year
pub from_to_one : (f : ℕ → ℕ) (k : ℕ) → from_to f k k ≡ f k
from_to_one f k =
    let w : suc k - k ≡ 1 = omega arith in
    let e : k + 0 ≡ k = omega arith in
    ap (λ (n : ℕ). total (up_to (λ i. f (k + i)) n)) w ∙ omega (arith, total_more (λ i. f (k + i)) 0, total_none (λ i. f (k + i)), ap f e)

-- the first year taken off
pub from_to_first : (f : ℕ → ℕ) (h k : ℕ) → h < k → from_to f h k ≡ f h + from_to f (suc h) k
from_to_first f h k lt =
    let w : suc k - h ≡ suc (suc k - suc h) = omega arith in
    ap (λ (n : ℕ). total (up_to (λ i. f (h + i)) n)) w ∙ total_from f h (suc k - suc h)

-- the years from 0 on
pub from_to_all : (f : ℕ → ℕ) (h : ℕ) → from_to f 0 h ≡ total (up_to f (suc h))
from_to_all f h =
    let w : suc h - 0 ≡ suc h = omega arith in
    ap (λ (n : ℕ). total (up_to (λ i. f (0 + i)) n)) w
    ∙ total_same (λ i. f (0 + i)) f (suc h) (λ i l. let e : 0 + i ≡ i = omega arith in ap f e)

-- the first a entries of a list and the n entries after them
total_after : (xs : List ℕ) (a n : ℕ) → total (take (a + n) xs) ≡ total (take a xs) + total (up_to (λ m. get_or xs (a + m) 0) n)
total_after xs a zero = let e : a + 0 ≡ a = omega arith in rw e (omega (arith, total_none (λ m. get_or xs (a + m) 0)))
total_after xs a (suc n) =
    let e : a + suc n ≡ a + n + 1 = omega arith in
    rw e (omega (arith, total_take xs (a + n), total_after xs a n, total_more (λ m. get_or xs (a + m) 0) n))

-- the last i of n numbers that are m together
pub rest_most : (xs : List ℕ) (n i m : ℕ) → i ≤ n → total (take n xs) ≡ m → total (up_to (λ j. get_or xs (n - i + j) 0) i) ≤ m
rest_most xs n i m le sum =
    let e : n - i + i ≡ n = omega arith in
    let s = rw e at (total_after xs (n - i) i) in
    omega arith

-- n numbers, each up to b
pub total_each : (f : ℕ → ℕ) (b n : ℕ) → ((i : ℕ) → i < n → f i ≤ b) → total (up_to f n) ≤ n * b
total_each f b zero h = omega (arith, total_none f)
total_each f b (suc n) h = omega (arith, total_more f n, h n (omega arith), total_each f b n (λ i l. h i (omega arith)))

-- numbers from m on that are zero may be left out
pub total_cut : (f : ℕ → ℕ) (m n : ℕ) → m ≤ n → ((i : ℕ) → m ≤ i → f i ≡ 0) → total (up_to f n) ≡ total (up_to f m)
total_cut f m zero le z = let e : m ≡ 0 = omega arith in rw e
total_cut f m (suc n) le z = go (total_cut f m n) (dec_le m n)
  where
    go : (m ≤ n → ((i : ℕ) → m ≤ i → f i ≡ 0) → total (up_to f n) ≡ total (up_to f m)) → Dec (m ≤ n) → total (up_to f (suc n)) ≡ total (up_to f m)
    go before (yes l) = omega (arith, total_more f n, z n l, before l z)
    go before (no l) = let e : m ≡ suc n = omega arith in rw e

-- the first a terms and the n after them
pub sum_to_parts : (f : ℕ → ℤ) (a n : ℕ) → sum_to f (a + n) ≡ sum_to f a +ℤ sum_to (λ c. f (a + c)) n
unfolding sum_to
sum_to_parts f a zero = let e : a + 0 ≡ a = omega arith in rw e (sym (+ℤ_idr (sum_to f a)))
sum_to_parts f a (suc n) =
    let e : a + suc n ≡ suc (a + n) = omega arith in
    rw e (ap (λ (x : ℤ). x +ℤ f (a + n)) (sum_to_parts f a n) ∙ +ℤ_assoc (sum_to f a) (sum_to (λ c. f (a + c)) n) (f (a + n)))
