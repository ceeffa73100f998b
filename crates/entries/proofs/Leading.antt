-- Laws of how far a loop goes that stops at the first entry that fails a test. Assumes nothing.
use Prim.Native.Nat.{ℕ, zero, suc, ◌+◌, ◌<◌, ◌-◌}
use native.Mathlib.Decide.{ℕ_discrete}
use native.Mathlib.Nat.{not-suc-le-zero}
use native.Mathlib.Numerals.{add-one}
use native.Mathlib.Omega.{arith}
use borrow.Author.Tests.{eq-eqb, ne_eqb}
use mathlib.Core.Path.{◌≡◌, refl, sym, ◌∙◌}
use mathlib.Core.Bool.{Bool, true, false, ◌&&◌}
use mathlib.Core.List.{List, [], ◌∷◌, ◌++◌, append-nil}
use lib.Dec.{eqb}
use Rattle.rules.specs.Lists.{up_to, below, every, joined}
use Rattle.laws.proofs.Lists.{both_left, both_right, every_append, up_to_at}
use Rattle.laws.proofs.Joined.{joined_both, joined_more}
use Rattle.entries.specs.Leading.{leading, asked, passing}

module _ (p : ℕ → Bool) where
  -- the last of the numbers apart
  below_last : (n : ℕ) → every p (below (suc n)) ≡ every p (below n) && (p n && true)
  unfolding up_to every
  below_last n = every_append p (up_to (λ i. i) n) (n ∷ [])

  -- where all pass, all are counted
  pub leading_all : (n : ℕ) → every p (below n) ≡ true → leading p n ≡ n
  unfolding leading
  leading_all zero h = refl
  leading_all (suc n) h =
      let both = sym (below_last n) ∙ h in
      let before = leading_all n (both_left (every p (below n)) (p n && true) both) in
      let last = both_left (p n) true (both_right (every p (below n)) (p n && true) both) in
      rw (before, eq-eqb n n refl, last)

  -- the first that fails
  pub leading_stop : (n i : ℕ) → i < n → every p (below i) ≡ true → p i ≡ false → leading p n ≡ i
  unfolding leading
  leading_stop zero i l h e = absurd (not-suc-le-zero l)
  leading_stop (suc n) i l h e = go (λ (m : i < n). leading_stop n i m h e) (ℕ_discrete i n)
    where
      go : (i < n → leading p n ≡ i) → Dec (i ≡ n) → leading p (suc n) ≡ i
      go before (yes q) =
          let here : leading p n ≡ n = leading_all n (rw q at h) in
          let last : p n ≡ false = rw q at e in
          rw (here, eq-eqb n n refl, last, q)
      go before (no q) = rw (before (omega arith), ne_eqb i n q)

  -- where all pass, all are asked
  pub asked_all : (n : ℕ) → every p (below n) ≡ true → asked p n ≡ n
  unfolding asked
  asked_all n h = rw (leading_all n h, eq-eqb n n refl)

  -- the first that fails is asked
  pub asked_stop : (n i : ℕ) → i < n → every p (below i) ≡ true → p i ≡ false → asked p n ≡ i + 1
  unfolding asked
  asked_stop n i l h e =
      let other : eqb i n ≡ false = ne_eqb i n (λ (q : i ≡ n). absurd (omega arith)) in
      rw (leading_stop n i l h e, other, add-one i)

module _ {A : Type 0} (p : A → Bool) where
  -- entries that all pass, and then others
  pub passing_append : (xs ys : List A) → every p xs ≡ true → passing p (xs ++ ys) ≡ xs ++ passing p ys
  unfolding passing every
  passing_append [] ys h = refl
  passing_append (x ∷ xs) ys h = rw (both_left (p x) (every p xs) h, passing_append xs ys (both_right (p x) (every p xs) h))

  -- where all pass
  pub passing_all : (xs : List A) → every p xs ≡ true → passing p xs ≡ xs
  unfolding passing
  passing_all xs h = rw (append-nil xs) at (passing_append xs [] h)

  -- where one fails, what comes after the entries counts no more
  pub passing_stop : (xs ys : List A) → every p xs ≡ false → passing p (xs ++ ys) ≡ passing p xs
  unfolding passing every
  passing_stop [] ys h = cc
  passing_stop (x ∷ xs) ys h = go (p x) refl (passing_stop xs ys)
    where
      go : (b : Bool) → p x ≡ b → (every p xs ≡ false → passing p (xs ++ ys) ≡ passing p xs) → passing p (x ∷ (xs ++ ys)) ≡ passing p (x ∷ xs)
      go true e after = rw (e, after (rw e at h))
      go false e after = rw e

  -- entries that all pass, and then some of which one fails: neither the answer nor what passes depends on the others
  stop : (xs ys rest : List A) → every p xs ≡ true → every p ys ≡ false
      → (every p ((xs ++ ys) ++ rest) ≡ false) × (passing p ((xs ++ ys) ++ rest) ≡ xs ++ passing p ys)
  stop xs ys rest h e =
      let failed : every p (xs ++ ys) ≡ false = rw (every_append p xs ys, h, e) in
      (rw (every_append p (xs ++ ys) rest, failed), passing_stop (xs ++ ys) rest failed ∙ passing_append xs ys h)

  -- the first value that fails
  pub stop_value : (f : ℕ → A) (n i : ℕ) → i < n → every p (up_to f i) ≡ true → p (f i) ≡ false
      → (every p (up_to f n) ≡ false) × (passing p (up_to f n) ≡ up_to f i)
  unfolding up_to every passing
  stop_value f n i h passed failed =
      let both = stop (up_to f i) (f i ∷ []) (up_to (λ j. f (suc i + j)) (n - suc i)) passed (rw failed) in
      rw (up_to_at f n i h) (both.0, both.1 ∙ rw (failed, append-nil (up_to f i)))

  -- the first row that has one
  pub stop_row : (f : ℕ → List A) (n i : ℕ) → i < n → every p (joined (up_to f i)) ≡ true → every p (f i) ≡ false
      → (every p (joined (up_to f n)) ≡ false) × (passing p (joined (up_to f n)) ≡ joined (up_to f i) ++ passing p (f i))
  stop_row f n i h passed failed =
      let rest = up_to (λ j. f (suc i + j)) (n - suc i) in
      rw (up_to_at f n i h, joined_both (up_to f (suc i)) rest, joined_more f i) (stop (joined (up_to f i)) (f i) (joined rest) passed failed)
