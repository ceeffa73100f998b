-- The first of the smallest numbers of a list: found by going from place to place, and the first place whose number none is below. Assumes nothing.
use Prim.Native.Nat.{ℕ, zero, suc, ◌+◌, ◌-◌, ◌≤◌, ◌<◌}
use native.Mathlib.Numerals.{add-one}
use native.Mathlib.Omega.{arith}
use native.Mathlib.Decide.{dec_lt}
use borrow.Author.Tests.{ltb-true, ltb-false, le-leb, lt-leb}
use mathlib.Core.Path.{◌≡◌, refl, sym, ap, ◌∙◌}
use mathlib.Core.Bool.{Bool, true, false, cond}
use mathlib.Core.List.{List, [], ◌∷◌}
use lib.Dec.{leb, ltb}
use lib.ListN.{length, get_or}
use Rattle.rules.specs.Lists.{up_to, every}
use Rattle.rules.specs.Hindsight.{first_place, best_place}
use Rattle.laws.proofs.Lists.{up_to_self, every_yes, every_fails}

-- of the first a numbers of l, the one at place b is the smallest, and the first such
pub record Smallest (l : List ℕ) (a b : ℕ) : Type 0 where
  pub inside : b < a
  pub least : (i : ℕ) → i < a → get_or l b 0 ≤ get_or l i 0
  pub first : (i : ℕ) → i < b → get_or l b 0 < get_or l i 0

pub smallest_one : (l : List ℕ) → Smallest l 1 0
smallest_one l = record { inside = omega arith; least = λ i h. ap_le i h; first = λ i h. absurd (omega arith) }
  where
    ap_le : (i : ℕ) → i < 1 → get_or l 0 0 ≤ get_or l i 0
    ap_le zero h = omega arith
    ap_le (suc i) h = absurd (omega arith)

-- one place more
pub smallest_more : (l : List ℕ) (a b : ℕ) → Smallest l a b → Smallest l (a + 1) (cond (ltb (get_or l a 0) (get_or l b 0)) a b)
smallest_more l a b s = go (ltb (get_or l a 0) (get_or l b 0)) refl
  where
    below : get_or l a 0 < get_or l b 0 → (i : ℕ) → i < a + 1 → Dec (i < a) → get_or l a 0 ≤ get_or l i 0
    below h i k (yes e) = omega (arith, s.least i e)
    below h i k (no e) = let same : i ≡ a = omega arith in rw same (omega arith)

    kept : get_or l b 0 ≤ get_or l a 0 → (i : ℕ) → i < a + 1 → Dec (i < a) → get_or l b 0 ≤ get_or l i 0
    kept h i k (yes e) = s.least i e
    kept h i k (no e) = let same : i ≡ a = omega arith in rw same h

    go : (t : Bool) → ltb (get_or l a 0) (get_or l b 0) ≡ t → Smallest l (a + 1) (cond t a b)
    go true e =
        let h = ltb-true (get_or l a 0) (get_or l b 0) e in
        record { inside = omega arith; least = λ i k. below h i k (dec_lt i a); first = λ i k. omega (arith, s.least i k) }
    go false e = record { inside = omega (arith, s.inside); least = λ i k. kept (ltb-false (get_or l a 0) (get_or l b 0) e) i k (dec_lt i a); first = s.first }

-- the first place that passes a test
place_is : {A : Type 0} (ok : A → Bool) (xs : List A) (d : A) (b : ℕ) → b < length xs → ok (get_or xs b d) ≡ true → ((i : ℕ) → i < b → ok (get_or xs i d) ≡ false)
    → first_place ok xs ≡ b
unfolding first_place
place_is ok [] d b h e f = absurd (omega arith)
place_is ok (x ∷ xs) d zero h e f = rw e
place_is ok (x ∷ xs) d (suc b) h e f = rw (f 0 (omega arith)) (ap suc (place_is ok xs d b (omega arith) e (λ i k. f (suc i) (omega arith))))

-- the smallest of a whole list stands at the best place
pub best_is : (l : List ℕ) (b : ℕ) → Smallest l (length l) b → b ≡ best_place l
unfolding best_place
best_is l b s =
    sym
    (place_is (λ x. every (leb x) l) l 0 b (omega (arith, s.inside))
    (sym (ap (every (leb (get_or l b 0))) (up_to_self l (length l) 0 refl)) ∙ (every_yes (leb (get_or l b 0)) (λ i. get_or l i 0) (length l) (λ i k. le-leb (get_or l b 0) (get_or l i 0) (s.least i k))))
    (λ i k. every_fails (leb (get_or l i 0)) l b 0 (omega (arith, s.inside)) (lt-leb (get_or l i 0) (get_or l b 0) (s.first i k))))

-- there is always a smallest
smallest_some : (l : List ℕ) (n : ℕ) → (b : ℕ) × Smallest l (suc n) b
smallest_some l zero = (0, smallest_one l)
smallest_some l (suc n) =
    let found = smallest_some l n in
    (_, rw (add-one (suc n)) at (smallest_more l (suc n) found.0 found.1))

-- so the best place has the smallest sum, and no place before it has as small a one
pub best_smallest : (l : List ℕ) → 1 ≤ length l → Smallest l (length l) (best_place l)
best_smallest l h =
    let some : suc (length l - 1) ≡ length l = omega arith in
    let found = smallest_some l (length l - 1) in
    let whole : Smallest l (length l) found.0 = rw some at found.1 in
    rw (← best_is l found.0 whole) whole
