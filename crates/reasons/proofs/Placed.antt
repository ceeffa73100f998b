-- Where `position` finds the first number that fails a test is how many pass before it. Assumes nothing.
use mathlib.Core.Path.{◌≡◌, refl, sym, ap, ◌∙◌}
use mathlib.Core.Bool.{Bool, true, false, not, cond}
use mathlib.Core.List.{List}
use Prim.Native.Nat.{ℕ, ◌+◌, ◌≤◌, ◌<◌}
use native.Mathlib.Decide.{dec_le}
use native.Mathlib.Omega.{arith}
use borrow.Author.Tests.{le-leb, lt-leb, lt-ltb, le-ltb}
use lib.Dec.{leb, ltb}
use lib.IntN.{ℤ, pos, negsuc}
use lib.ListN.{length, get_or, take}
use lib.Signed.{le_z, lt_z}
use Rattle.std.specs.List.{position, position_or_len}
use Rattle.std.specs.Option.{MatchOption, unwrap_or}
use Rattle.std.specs.Prelude.{Option, Some, None}
use Rattle.std.proofs.lemmas.List.{get_or-take, length-take-le}
use Rattle.std.proofs.lemmas.List.Sums.{position_or_len_is}
use Rattle.laws.proofs.Lists.{every_up_to, every_yes}
use Rattle.entries.specs.Leading.{leading}
use Rattle.entries.proofs.Leading.{leading_all, leading_stop}
use Rattle.reasons.specs.Reasons.{first_below}
use Rattle.reasons.proofs.Counted.{counted, leading_same}

turned : (b c : Bool) → not b ≡ c → b ≡ not c
turned true c h = ap not h
turned false c h = ap not h

or_all : (m n : ℕ) → m ≤ n → unwrap_or (cond (ltb m n) (Some m) None) n ≡ m
or_all m n h = go (dec_le n m)
  where
    go : Dec (n ≤ m) → unwrap_or (cond (ltb m n) (Some m) None) n ≡ m
    go (yes l) = rw (le-ltb m n l) (omega arith)
    go (no l) = rw (lt-ltb m n (omega arith)) refl

module _ {A : Type 0} (p : A → Bool) (xs : List A) (d : A) where
  placed : (n : ℕ) → n ≤ length xs → position_or_len p (take n xs) ≡ leading (λ i. not (p (get_or xs i d))) n
  placed n l =
      let q : ℕ → Bool = λ i. not (p (get_or xs i d)) in
      let c = counted q n in
      let all : length (take n xs) ≡ n = length-take-le n xs l in
      position_or_len_is
      p
      (take n xs)
      (leading q n)
      d
      (omega (arith, c.most, all))
      (λ k h. rw (get_or-take n xs k d (omega (arith, c.most, h))) (turned _ true (every_up_to q (λ i. i) (leading q n) k c.before h)))
      (λ h. rw (get_or-take n xs (leading q n) d (omega (arith, all, h))) (turned _ false (c.stop (omega (arith, all, h)))))

  -- and what `unwrap_or` makes of it, with how many there are
  pub found : (n : ℕ) → n ≤ length xs → unwrap_or (position p (take n xs)) n ≡ leading (λ i. not (p (get_or xs i d))) n
  found n l =
      let q : ℕ → Bool = λ i. not (p (get_or xs i d)) in
      let e : position_or_len p (take n xs) ≡ leading q n = placed n l in
      let all : length (take n xs) ≡ n = length-take-le n xs l in
      rw (e, all) (or_all (leading q n) n (counted q n).most)

at_least : (z : ℤ) → not (lt_z z (pos 0)) ≡ le_z (pos 0) z
at_least (pos n) = rw (le-ltb n 0 (omega arith), le-leb 0 n (omega arith))
at_least (negsuc n) = refl

-- the first of the years 0 to k whose total is below 0
pub first_below_placed : (totals : List ℤ) (k : ℕ) → k < length totals
    → unwrap_or (position (λ x. lt_z x (pos 0)) (take (k + 1) totals)) (k + 1) ≡ first_below (λ i. get_or totals i (pos 0)) k
unfolding first_below
first_below_placed totals k l =
    found (λ x. lt_z x (pos 0)) totals (pos 0) (k + 1) (omega arith) ∙ leading_same _ _ (k + 1) (λ i h. at_least (get_or totals i (pos 0)))

at_most : (most n : ℕ) → not (ltb most n) ≡ leb n most
at_most most n = go (dec_le n most)
  where
    go : Dec (n ≤ most) → not (ltb most n) ≡ leb n most
    go (yes l) = rw (le-ltb most n l, le-leb n most l)
    go (no l) = rw (lt-ltb most n (omega arith), lt-leb n most (omega arith))

-- the first of n numbers that is above the most
pub above_placed : (numbers : List ℕ) (most n : ℕ) → n ≤ length numbers
    → unwrap_or (position (λ x. ltb most x) (take n numbers)) n ≡ leading (λ h. leb (get_or numbers h 0) most) n
above_placed numbers most n l =
    found (λ x. ltb most x) numbers 0 n l ∙ leading_same _ _ n (λ i h. at_most most (get_or numbers i 0))

-- what `find` gives of the numbers below n, and how many there are where it gives none, is how many pass before the first that does not
pub first_in_range : (p : ℕ → Bool) (n : ℕ) (r : Option ℕ)
    → MatchOption r ((k : ℕ) → 0 ≤ k → k < n → p k ≡ true) (λ i. (0 ≤ i) × (i < n) × (p i ≡ false) × ((k : ℕ) → 0 ≤ k → k < i → p k ≡ true))
    → unwrap_or r n ≡ leading p n
first_in_range p n None h = sym (leading_all p n (every_yes p (λ k. k) n (λ k l. h k (omega arith) l)))
first_in_range p n (Some i) h = sym (leading_stop p n i h.1 (every_yes p (λ k. k) i (λ k l. h.3 k (omega arith) l)) h.2)
