-- Rows one after another in a list: the runs of stores that put them into an array, where each row starts, and its entries. Assumes nothing.
use mathlib.Core.Path.{◌≡◌, refl, sym, ◌∙◌, ap}
use mathlib.Core.List.{List, [], ◌∷◌, ◌++◌, append-nil, append_assoc, map, map-append}
use Prim.Native.Nat.{ℕ, zero, suc, ◌+◌, ◌-◌, ◌≤◌, ◌<◌}
use native.Mathlib.Decide.{dec_lt, ℕ_discrete}
use native.Mathlib.Nat.{not-suc-le-zero, sub-zero}
use native.Mathlib.Numerals.{add-one}
use native.Mathlib.Omega.{arith}
use lib.Dec.{lit≤}
use lib.ListN.{length, get_or, set, replicate, length-append, get_or-append, get_or-eq_default, take, length-map, drop}
use lib.Seq.{sets, get_or-append-add, set_comm, sets-eq, take_at}
use Rattle.rules.specs.Lists.{total, up_to, padded, joined}
use Rattle.rules.specs.Record.{cells}
use Rattle.rules.specs.Triangle.{row_start, future_start}
use Rattle.laws.proofs.Lists.{length_up_to, get_d_up_to, padded_more}
use Rattle.laws.proofs.Padded.{same_all}
use Rattle.laws.proofs.Totals.{total_more, total_part}

-- two runs of stores, the second where the first ends, are one run
pub sets_append : {A : Type 0} (xs ys l : List A) (i n : ℕ) → n ≡ i + length xs → sets (sets l i xs) n ys ≡ sets l i (xs ++ ys)
sets_append [] ys l i n e =
    let q : n ≡ i = omega arith in
    rw q
sets_append (a ∷ xs) ys l i n e = sets_append xs ys (set l i a) (suc i) n (omega arith)

-- one store more
pub sets_more : {A : Type 0} (f : ℕ → A) (l : List A) (at n : ℕ) → set (sets l at (up_to f n)) (at + n) (f n) ≡ sets l at (up_to f (n + 1))
unfolding up_to
sets_more f l at n = rw (add-one n) (sets_append (up_to f n) (f n ∷ []) l at (at + n) (omega (arith, length_up_to f n)))

-- one store more from the start of a list on
pub first_more : {A : Type 0} (f : ℕ → A) (l : List A) (n : ℕ) → set (sets l 0 (up_to f n)) n (f n) ≡ sets l 0 (up_to f (n + 1))
first_more f l n = let e : 0 + n ≡ n = omega arith in rw e at (sets_more f l 0 n)

-- one store more of a function of each value
pub sets_next : {A B : Type 0} (g : B → A) (f : ℕ → B) (l : List A) (i : ℕ) → set (sets l 0 (map g (up_to f i))) i (g (f i)) ≡ sets l 0 (map g (up_to f (i + 1)))
unfolding up_to
sets_next g f l i =
    rw (add-one i, map-append g (up_to f i) (f i ∷ []))
    (sets_append (map g (up_to f i)) (g (f i) ∷ []) l 0 i (omega (arith, length-map (up_to f i) g, length_up_to f i)))

-- a store before a run of stores
pub set_sets : {A : Type 0} (l : List A) (i : ℕ) (x : A) (b : ℕ) (ys : List A) → i < b → set (sets l b ys) i x ≡ sets (set l i x) b ys
set_sets l i x b [] h = refl
set_sets l i x b (y ∷ ys) h =
    set_sets (set l b y) i x (suc b) ys (omega arith) ∙ rw (set_comm l b i y x (λ (e : b ≡ i). absurd (omega arith)))

-- one store more in each of two runs of n
pub both_more : {A : Type 0} (f g : ℕ → A) (l : List A) (at n i : ℕ) → i < n
    → set (set (sets (sets l at (up_to f i)) (at + n) (up_to g i)) (at + i) (f i)) (at + n + i) (g i)
    ≡ sets (sets l at (up_to f (i + 1))) (at + n) (up_to g (i + 1))
both_more f g l at n i h =
    rw (set_sets (sets l at (up_to f i)) (at + i) (f i) (at + n) (up_to g i) (omega arith), sets_more f l at i)
    (sets_more g (sets l at (up_to f (i + 1))) (at + n) i)

-- what was stored first in a list is found there again
pub take_sets : {A : Type 0} (l xs : List A) (n : ℕ) → length xs ≡ n → n ≤ length l → take n (sets l 0 xs) ≡ xs
take_sets l xs n e h = ap (take n) (sets-eq xs l 0 (omega arith)) ∙ take_at xs (drop (0 + length xs) l) n e

-- a run of stores where a list in an array ends
pub sets_padded : {A : Type 0} (m : ℕ) (z : A) (xs ys : List A) (n : ℕ) → length xs ≡ n → n + length ys ≤ m
    → sets (padded m z xs) n ys ≡ padded m z (xs ++ ys)
sets_padded m z xs [] n e h = rw (append-nil xs)
sets_padded m z xs (y ∷ ys) n e h =
    rw (padded_more m z xs y n e (omega arith), ← append_assoc xs (y ∷ []) ys)
    (sets_padded m z (xs ++ (y ∷ [])) ys (suc n) (omega (arith, length-append xs (y ∷ []))) (omega arith))

-- an array of z holds nothing yet
nothing_filled : {A : Type 0} (m : ℕ) (z : A) → padded m z [] ≡ replicate m z
unfolding padded
nothing_filled m z = rw sub-zero

-- a run of stores into an array of z from its start on
pub sets_filled : {A : Type 0} (m : ℕ) (z : A) (ys : List A) → length ys ≤ m → sets (replicate m z) 0 ys ≡ padded m z ys
sets_filled m z ys h = rw (nothing_filled m z) at (sets_padded m z [] ys 0 refl (omega arith))

-- rows, and then others
pub joined_both : {A : Type 0} (xss yss : List (List A)) → joined (xss ++ yss) ≡ joined xss ++ joined yss
unfolding joined
joined_both [] yss = refl
joined_both (xs ∷ xss) yss = rw (joined_both xss yss) (sym (append_assoc xs (joined xss) (joined yss)))

-- one row more at the end
pub joined_append : {A : Type 0} (xss : List (List A)) (xs : List A) → joined (xss ++ (xs ∷ [])) ≡ joined xss ++ xs
unfolding joined
joined_append xss xs = rw (joined_both xss (xs ∷ []), append-nil xs)

module _ {A : Type 0} (f : ℕ → List A) where
  -- the rows 0 to n
  pub joined_more : (n : ℕ) → joined (up_to f (suc n)) ≡ joined (up_to f n) ++ f n
  unfolding up_to
  joined_more n = joined_append (up_to f n) (f n)

  -- as many entries as the rows have together
  length_more : (n : ℕ) → length (joined (up_to f (suc n))) ≡ length (joined (up_to f n)) + length (f n)
  length_more n = rw (joined_more n) (length-append (joined (up_to f n)) (f n))

  joined_length : (n : ℕ) → length (joined (up_to f n)) ≡ total (up_to (λ i. length (f i)) n)
  unfolding up_to joined total
  joined_length zero = refl
  joined_length (suc n) = omega (arith, length_more n, joined_length n, total_more (λ i. length (f i)) n)

  -- rows of k + 1, k, k − 1, .. entries
  pub past_length : (k : ℕ) → ((i : ℕ) → length (f i) ≡ k + 1 - i) → (n : ℕ) → length (joined (up_to f n)) ≡ row_start k n
  unfolding up_to joined row_start
  past_length k size zero = refl
  past_length k size (suc n) = omega (arith, length_more n, size n, past_length k size n)

  -- rows of 0, 1, 2, .. entries
  pub future_length : ((i : ℕ) → length (f i) ≡ i) → (n : ℕ) → length (joined (up_to f n)) ≡ future_start n
  unfolding up_to joined future_start
  future_length size zero = refl
  future_length size (suc n) = omega (arith, length_more n, size n, future_length size n)

  -- row i stands within the rows 0 to n − 1
  pub row_inside : (n i : ℕ) → i < n → length (joined (up_to f i)) + length (f i) ≤ length (joined (up_to f n))
  row_inside n i h = omega (arith, total_part (λ r. length (f r)) (suc i) n h, joined_length n, joined_length (suc i), length_more i)

  -- entry j of row i stands j places past the rows before it
  pub joined_at : (n i j : ℕ) (d : A) → i < n → j < length (f i) → get_or (joined (up_to f n)) (length (joined (up_to f i)) + j) d ≡ get_or (f i) j d
  joined_at zero i j d h l = absurd (not-suc-le-zero h)
  joined_at (suc n) i j d h l = go (joined_at n i j d) (ℕ_discrete i n)
    where
      place : ℕ
      place = length (joined (up_to f i)) + j

      go : (i < n → j < length (f i) → get_or (joined (up_to f n)) place d ≡ get_or (f i) j d) → Dec (i ≡ n) → get_or (joined (up_to f (suc n))) place d ≡ get_or (f i) j d
      go before (yes e) = rw (joined_more n, e) (get_or-append-add (joined (up_to f n)) (f n) j d)
      go before (no e) =
          let inside : place < length (joined (up_to f n)) = omega (arith, row_inside n i (omega arith)) in
          rw (joined_more n) (get_or-append (joined (up_to f n)) (f n) d place inside ∙ before (omega arith) l)

  -- entry j of row i, in rows of k + 1, k, k − 1, .. entries
  pub past_at : (k : ℕ) → ((i : ℕ) → length (f i) ≡ k + 1 - i) → (n i j : ℕ) (d : A) → i < n → i + j ≤ k
      → get_or (joined (up_to f n)) (row_start k i + j) d ≡ get_or (f i) j d
  past_at k size n i j d h l = rw (← past_length k size i) (joined_at n i j d h (omega (arith, size i)))

-- at most sixteen of those, d short of sixteen, have at most 120 entries
few_most : (d n : ℕ) → d + n ≡ 16 → future_start n ≤ 120
unfolding future_start
few_most zero n e =
    let is : n ≡ 16 = omega arith in
    rw is (lit≤ tt)
few_most (suc d) n e = omega (arith, few_most d (suc n) (omega arith))

pub future_most : (n : ℕ) → n ≤ 16 → future_start n ≤ 120
future_most n h = few_most (16 - n) n (omega arith)

-- row i ends within 120 entries
pub future_room : (i : ℕ) → i < 16 → future_start i + i ≤ 120
unfolding future_start
future_room i h = future_most (suc i) h

-- the cells of a triangle are those past its diagonal and one a year
future_suc : (k : ℕ) → cells k ≡ future_start (suc k) + suc k
unfolding cells future_start
future_suc zero = refl
future_suc (suc k) = omega (arith, future_suc k)

pub future_cells_lem : (k : ℕ) → cells k ≡ future_start (k + 1) + (k + 1)
future_cells_lem k = rw (add-one k) (future_suc k)

-- what holds of the default, of z and of every entry that is put in holds of every entry
module _ {A : Type 0} (P : A → Type 0) (d : A) (at-d : P d) where
  -- of two lists, one after the other
  pub append_all : (xs ys : List A) → ((i : ℕ) → P (get_or xs i d)) → ((i : ℕ) → P (get_or ys i d)) → (i : ℕ) → P (get_or (xs ++ ys) i d)
  append_all [] ys p q i = q i
  append_all (x ∷ xs) ys p q zero = p zero
  append_all (x ∷ xs) ys p q (suc i) = append_all xs ys (λ j. p (suc j)) q i

  -- of the first n of a sequence
  pub up_to_all : (f : ℕ → A) (n : ℕ) → ((i : ℕ) → i < n → P (f i)) → (i : ℕ) → P (get_or (up_to f n) i d)
  up_to_all f n p i = go (dec_lt i n)
    where
      go : Dec (i < n) → P (get_or (up_to f n) i d)
      go (yes l) = rw (get_d_up_to f n i d l) (p i l)
      go (no l) = rw (get_or-eq_default (up_to f n) d {n = i} (omega (arith, length_up_to f n))) at-d

  -- of rows, one after another
  pub joined_all : (f : ℕ → List A) (n : ℕ) → ((i j : ℕ) → i < n → P (get_or (f i) j d)) → (j : ℕ) → P (get_or (joined (up_to f n)) j d)
  unfolding up_to joined
  joined_all f zero p j = at-d
  joined_all f (suc n) p j =
      rw (joined_append (up_to f n) (f n)) (append_all (joined (up_to f n)) (f n) (joined_all f n (λ i c l. p i c (omega arith))) (λ c. p n c (omega arith)) j)

  -- of a list in an array
  pub padded_all : (m : ℕ) (z : A) → P z → (xs : List A) → ((i : ℕ) → P (get_or xs i d)) → (i : ℕ) → P (get_or (padded m z xs) i d)
  unfolding padded
  padded_all m z at-z xs p = append_all xs (replicate (m - length xs) z) p (same_all P z d at-z at-d (m - length xs))
