-- Sums of signed terms: term by term, two sums as one, zero terms left out, one term out of many, and rows or columns first. Assumes nothing.
use mathlib.Core.Path.{◌≡◌, refl, sym, ◌∙◌, ap, ap₂}
use mathlib.Core.Bool.{Bool, true, false, cond}
use Prim.Native.Nat.{ℕ, zero, suc, ◌+◌, ◌-◌, ◌≤◌, ◌<◌}
use native.Mathlib.Nat.{not-suc-le-zero}
use native.Mathlib.Omega.{arith}
use native.Mathlib.Decide.{ℕ_discrete}
use lib.Dec.{eqb}
use lib.IntN.{ℤ, pos, ◌+ℤ◌, +ℤ_idl, +ℤ_idr}
use borrow.Author.Tests.{eq-eqb, ne_eqb}
use Rattle.rules.specs.Triangle.{sum_to}
use Rattle.laws.proofs.Diff.{+ℤ-swap}

-- term by term
pub sum_to_same : (f g : ℕ → ℤ) (n : ℕ) → ((i : ℕ) → i < n → f i ≡ g i) → sum_to f n ≡ sum_to g n
unfolding sum_to
sum_to_same f g zero e = refl
sum_to_same f g (suc n) e = ap₂ (λ (x y : ℤ). x +ℤ y) (sum_to_same f g n (λ i lt. e i (omega arith))) (e n (omega arith))

-- the sum of two sums
pub sum_to_add : (f g : ℕ → ℤ) (n : ℕ) → sum_to (λ i. f i +ℤ g i) n ≡ sum_to f n +ℤ sum_to g n
unfolding sum_to
sum_to_add f g zero = refl
sum_to_add f g (suc n) = ap (λ (x : ℤ). x +ℤ (f n +ℤ g n)) (sum_to_add f g n) ∙ +ℤ-swap (sum_to f n) (sum_to g n) (f n) (g n)

-- every term zero
pub sum_to_zero : (f : ℕ → ℤ) (n : ℕ) → ((i : ℕ) → i < n → f i ≡ pos 0) → sum_to f n ≡ pos 0
unfolding sum_to
sum_to_zero f zero e = refl
sum_to_zero f (suc n) e = rw (sum_to_zero f n (λ i lt. e i (omega arith)), e n (omega arith)) refl

-- a term that a test passes, and one that it does not
pub passed : {b : Bool} (z : ℤ) → b ≡ true → cond b z (pos 0) ≡ z
passed z e = rw e refl

pub left_out : {b : Bool} (z : ℤ) → b ≡ false → cond b z (pos 0) ≡ pos 0
left_out z e = rw e refl

-- zero, whatever the test says
pub zero_term : (b : Bool) → cond b (pos 0) (pos 0) ≡ pos 0
zero_term true = refl
zero_term false = refl

-- a term where two numbers are equal, and where they are not
pub passed_eq : (a b : ℕ) (z : ℤ) → a ≡ b → cond (eqb a b) z (pos 0) ≡ z
passed_eq a b z e = passed z (eq-eqb a b e)

pub left_out_eq : (a b : ℕ) (z : ℤ) → (a ≡ b → ⊥) → cond (eqb a b) z (pos 0) ≡ pos 0
left_out_eq a b z e = left_out z (ne_eqb a b e)

-- one term out of n
pub sum_to_one : (f : ℕ → ℤ) (j n : ℕ) → j < n → sum_to (λ c. cond (eqb c j) (f c) (pos 0)) n ≡ f j
unfolding sum_to
sum_to_one f j zero lt = absurd (not-suc-le-zero lt)
sum_to_one f j (suc n) lt = go (λ l. sum_to_one f j n l) (ℕ_discrete n j)
  where
    go : (j < n → sum_to (λ c. cond (eqb c j) (f c) (pos 0)) n ≡ f j) → Dec (n ≡ j) →
        sum_to (λ c. cond (eqb c j) (f c) (pos 0)) n +ℤ cond (eqb n j) (f n) (pos 0) ≡ f j
    go ih (yes e) =
        ap₂ (λ (x y : ℤ). x +ℤ y) (sum_to_zero (λ c. cond (eqb c j) (f c) (pos 0)) n (λ i l. left_out_eq i j (f i) (λ q. omega arith))) (passed_eq n j (f n) e)
        ∙ +ℤ_idl (f n)
        ∙ ap f e
    go ih (no ne) = ap₂ (λ (x y : ℤ). x +ℤ y) (ih (omega arith)) (left_out_eq n j (f n) ne) ∙ +ℤ_idr (f j)

-- terms from m on that are zero may be left out
cut_more : (f : ℕ → ℤ) (m e : ℕ) → ((i : ℕ) → m ≤ i → f i ≡ pos 0) → sum_to f (e + m) ≡ sum_to f m
unfolding sum_to
cut_more f m zero z = let w : 0 + m ≡ m = omega arith in ap (λ (x : ℕ). sum_to f x) w
cut_more f m (suc e) z =
    let w : suc e + m ≡ suc (e + m) = omega arith in
    ap (λ (x : ℕ). sum_to f x) w ∙ ap₂ (λ (x y : ℤ). x +ℤ y) (cut_more f m e z) (z (e + m) (omega arith)) ∙ +ℤ_idr _

pub sum_to_cut : (f : ℕ → ℤ) (m n : ℕ) → m ≤ n → ((i : ℕ) → m ≤ i → f i ≡ pos 0) → sum_to f n ≡ sum_to f m
sum_to_cut f m n le z = let w : n ≡ n - m + m = omega arith in ap (λ (x : ℕ). sum_to f x) w ∙ cut_more f m (n - m) z

-- rows first or columns first
pub sum_to_turn : (f : ℕ → ℕ → ℤ) (n m : ℕ) → sum_to (λ i. sum_to (λ j. f i j) m) n ≡ sum_to (λ j. sum_to (λ i. f i j) n) m
unfolding sum_to
sum_to_turn f zero m = sym (sum_to_zero (λ j. pos 0) m (λ j l. refl))
sum_to_turn f (suc n) m =
    ap (λ (x : ℤ). x +ℤ sum_to (λ j. f n j) m) (sum_to_turn f n m) ∙ sym (sum_to_add (λ j. sum_to (λ i. f i j) n) (λ j. f n j) m)
