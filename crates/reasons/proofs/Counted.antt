-- How many of the first numbers pass a test before the first that does not: those all pass, and that one does not. Assumes nothing.
use mathlib.Core.Path.{◌≡◌, refl, sym, ap, ◌∙◌}
use mathlib.Core.Bool.{Bool, true, false, cond}
use Prim.Native.Nat.{ℕ, zero, suc, ◌≤◌, ◌<◌}
use native.Mathlib.Decide.{ℕ_discrete}
use native.Mathlib.Numerals.{add-one}
use native.Mathlib.Omega.{arith}
use borrow.Author.Tests.{eq-eqb, ne_eqb}
use Rattle.rules.specs.Lists.{up_to, below, every}
use Rattle.laws.proofs.Lists.{every_next}
use Rattle.entries.specs.Leading.{leading}

-- a test does not say both
pub no_both : (b : Bool) → b ≡ true → b ≡ false → ⊥
no_both b e f =
    let number : Bool → ℕ = λ x. cond x 0 1 in
    let z : number true ≡ number false = ap number (sym e ∙ f) in
    omega (arith, z)

-- tests that agree count the same
pub leading_same : (p q : ℕ → Bool) (n : ℕ) → ((i : ℕ) → i < n → p i ≡ q i) → leading p n ≡ leading q n
unfolding leading
leading_same p q zero h = refl
leading_same p q (suc n) h =
    rw (leading_same p q n (λ i l. h i (omega arith)), h n (omega arith))

apart : (a b : ℕ) → a ≤ b → (a ≡ b → ⊥) → a < b
apart a b l h = omega arith

module _ (p : ℕ → Bool) where
  -- how many pass, one number more: all of them and this one too, all but this one, and as before
  more : (n : ℕ) → leading p n ≡ n → p n ≡ true → leading p (suc n) ≡ suc n
  unfolding leading
  more n e h = rw (eq-eqb (leading p n) n e, h)

  last_fails : (n : ℕ) → leading p n ≡ n → p n ≡ false → leading p (suc n) ≡ n
  unfolding leading
  last_fails n e h = rw (eq-eqb (leading p n) n e, h, e)

  stays : (n : ℕ) → (leading p n ≡ n → ⊥) → leading p (suc n) ≡ leading p n
  unfolding leading
  stays n h = rw (ne_eqb (leading p n) n h)

  -- what is counted, of n numbers: no more than there are; all of them pass; and where it is not all n, the one at which it stops does not
  pub record Counted (n : ℕ) : Type 0 where
    pub most : leading p n ≤ n
    pub before : every p (below (leading p n)) ≡ true
    pub stop : leading p n < n → p (leading p n) ≡ false

  next : (n : ℕ) → Counted n → (b : Bool) → p n ≡ b → Dec (leading p n ≡ n) → Counted (suc n)
  next n c true h (yes e) =
      let m = more n e h in
      let all : every p (below n) ≡ true = rw e at c.before in
      record { most = omega arith; before = rw m (rw (add-one n) at (every_next p (λ i. i) n all h)); stop = λ l. absurd (omega arith) }
  next n c false h (yes e) =
      let m = last_fails n e h in
      record { most = omega arith; before = rw m (rw e at c.before); stop = λ _. rw m h }
  next n c b h (no e) =
      let m = stays n e in
      let less = c.most in
      record { most = omega arith; before = rw m c.before; stop = λ _. rw m (c.stop (omega (arith, apart (leading p n) n less e))) }

  pub counted : (n : ℕ) → Counted n
  unfolding leading up_to every
  counted zero = record { most = omega arith; before = refl; stop = λ l. absurd (omega arith) }
  counted (suc n) = next n (counted n) (p n) refl (ℕ_discrete (leading p n) n)

  -- where all n are counted, all pass
  pub all_pass : (n : ℕ) → leading p n ≡ n → every p (below n) ≡ true
  all_pass n e = rw e at (counted n).before

  -- and where not all pass, it stops before n
  pub stops_below : (n : ℕ) → every p (below n) ≡ false → leading p n < n
  stops_below n f = go (ℕ_discrete (leading p n) n) (counted n).most
    where
      go : Dec (leading p n ≡ n) → leading p n ≤ n → leading p n < n
      go (yes e) l = absurd (no_both (every p (below n)) (all_pass n e) f)
      go (no e) l = apart (leading p n) n l e
