-- Laws of the rules' words for lists: `up_to`, `padded`, `total` and `every`. Assumes nothing.
use mathlib.Core.Path.{◌≡◌, refl, sym, ap, ap₂, ◌∙◌}
use mathlib.Core.Bool.{Bool, true, false, ◌&&◌, and_assoc, and-false}
use mathlib.Core.List.{List, [], ◌∷◌, ◌++◌, map, append-nil, map-append, append_assoc}
use Prim.Native.Nat.{ℕ, zero, suc, ◌+◌, ◌-◌, ◌*◌, ◌≤◌, ◌<◌, zero-le}
use native.Mathlib.Decide.{dec_lt, ℕ_discrete}
use native.Mathlib.Nat.{not-suc-le-zero, add-zero, add-suc}
use native.Mathlib.Numerals.{add-one}
use native.Mathlib.Omega.{arith}
use borrow.Author.Tests.{leb-true}
use lib.Dec.{leb}
use lib.IntN.{pos, nat_abs}
use lib.ListN.{length, get_or, set, take, drop, replicate, length-append, length-drop, get_or-append, length-set}
use lib.Seq.{get_or_at, set_at, append_snoc, take-nil, take-suc, take_all, ext_get_or, get_or-set_same, take_at, get_or-set_other}
use Rattle.rules.specs.Lists.{total, up_to, below, padded, every, between}

-- n values
pub length_up_to : {A : Type 0} (f : ℕ → A) (n : ℕ) → length (up_to f n) ≡ n
unfolding up_to
length_up_to f zero = refl
length_up_to f (suc n) = rw (length-append (up_to f n) (f n ∷ []), length_up_to f n) (omega arith)

-- value i
pub get_d_up_to : {A : Type 0} (f : ℕ → A) (n i : ℕ) (d : A) → i < n → get_or (up_to f n) i d ≡ f i
unfolding up_to
get_d_up_to f zero i d h = absurd (not-suc-le-zero h)
get_d_up_to f (suc n) i d h = go (get_d_up_to f n i d) (dec_lt i n)
  where
    go : (i < n → get_or (up_to f n) i d ≡ f i) → Dec (i < n) → get_or (up_to f n ++ (f n ∷ [])) i d ≡ f i
    go below (yes l) = get_or-append (up_to f n) (f n ∷ []) d i (rw (length_up_to f n) l) ∙ below l
    go below (no l) =
        let e : i ≡ n = omega arith in
        rw e (get_or_at (up_to f n) (f n) [] d n (length_up_to f n))

-- equal values make equal lists
pub up_to_ext : {A : Type 0} (f g : ℕ → A) (n : ℕ) → ((i : ℕ) → i < n → f i ≡ g i) → up_to f n ≡ up_to g n
unfolding up_to
up_to_ext f g zero e = refl
up_to_ext f g (suc n) e = rw (up_to_ext f g n (λ i h. e i (omega arith)), e n (omega arith))

-- the first value apart
pub up_to_cons : {A : Type 0} (f : ℕ → A) (n : ℕ) → up_to f (suc n) ≡ f 0 ∷ up_to (λ i. f (suc i)) n
unfolding up_to
up_to_cons f zero = refl
up_to_cons {A} f (suc n) = ap {B = List A} (λ l. l ++ (f (suc n) ∷ [])) (up_to_cons f n)

-- the store of one entry more
pub padded_more : {A : Type 0} (m : ℕ) (z : A) (xs : List A) (x : A) (n : ℕ) → length xs ≡ n → n < m
    → set (padded m z xs) n x ≡ padded m z (xs ++ (x ∷ []))
unfolding padded
padded_more m z xs x n e h =
    let f : m - length xs ≡ suc (m - suc n) = omega arith in
    let g : m - length (xs ++ (x ∷ [])) ≡ m - suc n = omega (arith, length-append xs (x ∷ [])) in
    rw (f, g, set_at xs z (replicate (m - suc n) z) x n e) (sym (append_snoc xs x (replicate (m - suc n) z)))

-- the sum of one entry more; past the end it is 0
pub total_take : (xs : List ℕ) (i : ℕ) → total (take (i + 1) xs) ≡ total (take i xs) + get_or xs i 0
unfolding total
total_take [] i = rw (add-one i, take-nil i) (omega arith)
total_take (x ∷ xs) zero = omega arith
total_take (x ∷ xs) (suc i) =
    let h : total (take (suc i) xs) ≡ total (take i xs) + get_or xs i 0 = rw (add-one i) at (total_take xs i) in
    rw (add-one (suc i)) (omega arith)

-- the sum of the first n numbers of a list, each up to b
pub total_most : (b : ℕ) (xs : List ℕ) → ((i : ℕ) → get_or xs i 0 ≤ b) → (n : ℕ) → total (take n xs) ≤ n * b
unfolding total
total_most b xs h zero = omega arith
total_most b xs h (suc n) = rw (← add-one n) (omega (arith, total_take xs n, h n, total_most b xs h n))

-- both parts of a test that holds
pub both_left : (a b : Bool) → a && b ≡ true → a ≡ true
both_left true b e = refl
both_left false b e = e

pub both_right : (a b : Bool) → a && b ≡ true → b ≡ true
both_right true b e = e
both_right false b e = cc

module _ {A : Type 0} (p : A → Bool) where
  -- every entry of two lists, one after the other
  pub every_append : (xs ys : List A) → every p (xs ++ ys) ≡ every p xs && every p ys
  unfolding every
  every_append [] ys = refl
  every_append (x ∷ xs) ys = rw (every_append xs ys) (sym (and_assoc (p x) (every p xs) (every p ys)))

  -- one entry more at the end
  pub every_more : (xs : List A) (i : ℕ) (d : A) → i < length xs → every p (take i xs) ≡ true → p (get_or xs i d) ≡ true → every p (take (i + 1) xs) ≡ true
  unfolding every
  every_more xs i d l h e = rw (add-one i, take-suc xs i d l, every_append, h, e)

  -- one entry that fails
  pub every_fails : (xs : List A) (i : ℕ) (d : A) → i < length xs → p (get_or xs i d) ≡ false → every p xs ≡ false
  unfolding every
  every_fails [] i d l e = absurd (not-suc-le-zero l)
  every_fails (x ∷ xs) zero d l e = rw e
  every_fails (x ∷ xs) (suc i) d l e = rw (every_fails xs i d (omega arith) e) (and-false (p x))

  -- what it says of one entry
  pub every_at : (xs : List A) (i : ℕ) (d : A) → i < length xs → every p xs ≡ true → p (get_or xs i d) ≡ true
  unfolding every
  every_at [] i d l e = absurd (not-suc-le-zero l)
  every_at (x ∷ xs) zero d l e = both_left (p x) (every p xs) e
  every_at (x ∷ xs) (suc i) d l e = every_at xs i d (omega arith) (both_right (p x) (every p xs) e)

-- each number of a list whose range is known is at most the limit
pub at_most : (least most : ℕ) (xs : List ℕ) → every (between least most) xs ≡ true → (i : ℕ) → get_or xs i 0 ≤ most
unfolding every
at_most least most [] h i = zero-le
at_most least most (x ∷ xs) h zero =
    leb-true x most (both_right (leb least x) (leb x most) (both_left (between least most x) (every (between least most) xs) h))
at_most least most (x ∷ xs) h (suc i) = at_most least most xs (both_right (between least most x) (every (between least most) xs) h) i

-- what a test says of entry i of f 0, .., f (n − 1)
pub every_up_to : {A : Type 0} (p : A → Bool) (f : ℕ → A) (n i : ℕ) → every p (up_to f n) ≡ true → i < n → p (f i) ≡ true
every_up_to p f n i e h = rw (get_d_up_to f n i (f i) h) at (every_at p (up_to f n) i (f i) (rw (length_up_to f n) h) e)

-- two answers that are yes together
pub same_answer : (a b : Bool) → (a ≡ true → b ≡ true) → (b ≡ true → a ≡ true) → a ≡ b
same_answer true b f g = sym (f refl)
same_answer false true f g = g refl
same_answer false false f g = refl

-- two tests that agree value by value
pub every_same : {A B : Type 0} (p : A → Bool) (q : B → Bool) (f : ℕ → A) (g : ℕ → B) (n : ℕ)
    → ((i : ℕ) → i < n → p (f i) ≡ q (g i)) → every p (up_to f n) ≡ every q (up_to g n)
unfolding every up_to
every_same p q f g zero e = refl
every_same p q f g (suc n) e =
    let last : every p (f n ∷ []) ≡ every q (g n ∷ []) = rw (e n (omega arith)) in
    every_append p (up_to f n) (f n ∷ [])
    ∙ ap₂ (λ (a b : Bool). a && b) (every_same p q f g n (λ i l. e i (omega arith))) last
    ∙ sym (every_append q (up_to g n) (g n ∷ []))

-- every value passes
pub every_yes : {A : Type 0} (p : A → Bool) (f : ℕ → A) (n : ℕ) → ((i : ℕ) → i < n → p (f i) ≡ true) → every p (up_to f n) ≡ true
unfolding every up_to
every_yes p f zero e = refl
every_yes p f (suc n) e = rw (every_append p (up_to f n) (f n ∷ []), every_yes p f n (λ i l. e i (omega arith)), e n (omega arith))

-- the first n values, and the m after them
pub up_to_both : {A : Type 0} (f : ℕ → A) (n m : ℕ) → up_to f (n + m) ≡ up_to f n ++ up_to (λ i. f (n + i)) m
unfolding up_to
up_to_both f n zero = rw (add-zero n) (sym (append-nil (up_to f n)))
up_to_both f n (suc m) = rw (add-suc n m, up_to_both f n m) (append_assoc (up_to f n) (up_to (λ i. f (n + i)) m) (f (n + m) ∷ []))

-- value i and those before it, and the others
pub up_to_at : {A : Type 0} (f : ℕ → A) (n i : ℕ) → i < n → up_to f n ≡ up_to f (suc i) ++ up_to (λ j. f (suc i + j)) (n - suc i)
up_to_at f n i h =
    let e : n ≡ suc i + (n - suc i) = omega arith in
    ap (up_to f) e ∙ up_to_both f (suc i) (n - suc i)

-- a list is its entries
pub up_to_self : {A : Type 0} (l : List A) (n : ℕ) (d : A) → length l ≡ n → up_to (λ i. get_or l i d) n ≡ l
up_to_self l n d e =
    ext_get_or d _ l (length_up_to _ n ∙ sym e) (λ i h. get_d_up_to (λ i. get_or l i d) n i d (omega (arith, length_up_to (λ i. get_or l i d) n)))

-- value i set anew, the others kept
pub set_up_to : {A : Type 0} (f g : ℕ → A) (n i : ℕ) → i < n → ((j : ℕ) → (j ≡ i → ⊥) → f j ≡ g j) → set (up_to f n) i (g i) ≡ up_to g n
set_up_to f g n i h same =
    let long : length (set (up_to f n) i (g i)) ≡ n = length-set (up_to f n) i (g i) ∙ length_up_to f n in
    ext_get_or (g i) _ _ (long ∙ sym (length_up_to g n)) (λ j l. go j (omega arith) (ℕ_discrete j i))
  where
    go : (j : ℕ) → j < n → Dec (j ≡ i) → get_or (set (up_to f n) i (g i)) j (g i) ≡ get_or (up_to g n) j (g i)
    go j l (yes e) = rw (e, get_or-set_same (up_to f n) i (g i) (g i) (omega (arith, length_up_to f n))) (sym (get_d_up_to g n i (g i) h))
    go j l (no e) = get_or-set_other (up_to f n) i j (g i) (g i) e ∙ get_d_up_to f n j (g i) l ∙ same j e ∙ sym (get_d_up_to g n j (g i) l)

-- entry i is stored, and another entry j keeps its value
pub stored : {A : Type 0} (l : List A) (i : ℕ) (x z : A) (f : ℕ → A) → i < length l → x ≡ f i
    → (j : ℕ) → ((j ≡ i → ⊥) → get_or l j z ≡ f j) → get_or (set l i x) j z ≡ f j
stored l i x z f h e j other = go (ℕ_discrete j i)
  where
    go : Dec (j ≡ i) → get_or (set l i x) j z ≡ f j
    go (yes q) = rw (q, get_or-set_same l i x z h) e
    go (no q) = get_or-set_other l i j x z q ∙ other q

-- a function of each value
pub map_up_to : {A B : Type 0} (h : A → B) (f : ℕ → A) (n : ℕ) → map h (up_to f n) ≡ up_to (λ i. h (f i)) n
unfolding up_to
map_up_to h f zero = refl
map_up_to h f (suc n) = rw (map-append h (up_to f n) (f n ∷ []), map_up_to h f n)

-- a list is found again in its array
pub take_padded : {A : Type 0} (m n : ℕ) (z : A) (xs : List A) → length xs ≡ n → take n (padded m z xs) ≡ xs
unfolding padded
take_padded m n z xs e = take_at xs (replicate (m - length xs) z) n e

-- the part of a list from place a on
pub from_place : {A : Type 0} (xs : List A) (a : ℕ) → take (length xs - a) (drop a xs) ≡ drop a xs
from_place xs a = take_all (length xs - a) (drop a xs) (omega (arith, length-drop a xs))

-- the sizes of whole numbers are the numbers
pub sizes_again : (xs : List ℕ) → map nat_abs (map pos xs) ≡ xs
sizes_again [] = refl
sizes_again (x ∷ xs) = ap (λ (l : List ℕ). x ∷ l) (sizes_again xs)

module _ {A : Type 0} (p : A → Bool) (f : ℕ → A) where
  -- one value more that passes
  pub every_next : (n : ℕ) → every p (up_to f n) ≡ true → p (f n) ≡ true → every p (up_to f (n + 1)) ≡ true
  unfolding every up_to
  every_next n h e = rw (add-one n, every_append p (up_to f n) (f n ∷ []), h, e)

  -- one value that fails
  pub fails_at : (n i : ℕ) → i < n → p (f i) ≡ false → every p (up_to f n) ≡ false
  fails_at n i l e = every_fails p (up_to f n) i (f i) (rw (length_up_to f n) l) (rw (get_d_up_to f n i (f i) l) e)
