-- A list in an array: filled one store a turn, and its entries. Assumes nothing.
use mathlib.Core.Path.{◌≡◌, ◌∙◌}
use Prim.Native.Nat.{ℕ, zero, suc, ◌+◌, ◌-◌, ◌≤◌, ◌<◌}
use native.Mathlib.Nat.{sub-zero}
use native.Mathlib.Numerals.{add-one}
use native.Mathlib.Omega.{arith}
use lib.ListN.{length, get_or, set, replicate, length-append, length-replicate, get_or-append, get_or-replicate}
use lib.Seq.{get_or-append-add}
use Rattle.rules.specs.Lists.{up_to, padded}
use Rattle.laws.proofs.Lists.{length_up_to, get_d_up_to, padded_more}

-- what holds of z and of the default holds of every entry of an array of z
pub same_all : {A : Type 0} (P : A → Type 0) (z d : A) → P z → P d → (n i : ℕ) → P (get_or (replicate n z) i d)
same_all P z d at-z at-d zero i = at-d
same_all P z d at-z at-d (suc n) zero = at-z
same_all P z d at-z at-d (suc n) (suc i) = same_all P z d at-z at-d n i

module _ {A : Type 0} (m : ℕ) (z : A) (f : ℕ → A) where
  -- before the first store
  pub filled_none : replicate m z ≡ padded m z (up_to f 0)
  unfolding padded up_to
  filled_none = rw sub-zero

  -- the store of value n
  pub filled_more : (n : ℕ) → n < m → set (padded m z (up_to f n)) n (f n) ≡ padded m z (up_to f (n + 1))
  unfolding up_to
  filled_more n h = rw (add-one n) (padded_more m z (up_to f n) (f n) n (length_up_to f n) h)

  -- the array is as long as before
  pub filled_length : (n : ℕ) → n ≤ m → length (padded m z (up_to f n)) ≡ m
  unfolding padded
  filled_length n h = simp (length-append, length-replicate, length_up_to) (omega (arith, h))

  -- value i
  pub filled_at : (n i : ℕ) (d : A) → i < n → get_or (padded m z (up_to f n)) i d ≡ f i
  unfolding padded
  filled_at n i d h = get_or-append (up_to f n) (replicate (m - length (up_to f n)) z) d i (rw (length_up_to f n) h) ∙ get_d_up_to f n i d h

  -- what holds of z and of the default holds of every entry past the values
  pub filled_past : (P : A → Type 0) (d : A) → P z → P d → (n i : ℕ) → n ≤ i → P (get_or (padded m z (up_to f n)) i d)
  unfolding padded
  filled_past P d at-z at-d n i h =
      let e : i ≡ length (up_to f n) + (i - n) = omega (arith, length_up_to f n) in
      rw (e, get_or-append-add (up_to f n)) (same_all P z d at-z at-d (m - length (up_to f n)) (i - n))

-- an entry past the values in an array of z
pub rest_at : {A : Type 0} (m : ℕ) (z : A) (f : ℕ → A) (n i : ℕ) (d : A) → n ≤ i → i < m → get_or (padded m z (up_to f n)) i d ≡ z
unfolding padded
rest_at m z f n i d h l =
    let e : i ≡ length (up_to f n) + (i - n) = omega (arith, length_up_to f n) in
    rw (e, get_or-append-add (up_to f n)) (get_or-replicate (m - length (up_to f n)) (i - n) z d (omega (arith, length_up_to f n)))
