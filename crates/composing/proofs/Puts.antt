-- Texts put into a buffer one after another: no text, two to six of them, the turns of a loop, and a text in one piece. Assumes nothing.
use mathlib.Core.Path.{◌≡◌, refl, sym, ap, ◌∙◌}
use mathlib.Core.List.{List, [], ◌∷◌, ◌++◌, append_assoc}
use Prim.Native.Nat.{ℕ, suc, ◌+◌, ◌-◌, ◌≤◌, ◌<◌}
use native.Mathlib.Decide.{dec_le}
use native.Mathlib.Numerals.{add-one}
use native.Mathlib.Omega.{arith}
use lib.ListN.{length, take, drop, length-append, length-take, take-append-drop}
use lib.Seq.{sets, sets-eq, set_out, length-sets, take-append_seam, take_all}
use borrow.Rule.Slice.PartMut.{put_mid}
use Rattle.std.specs.Prelude.{min}
use Rattle.std.proofs.lemmas.List.{nil_from_length, drop-drop}
use Rattle.rules.specs.Lists.{up_to, joined}
use Rattle.laws.proofs.Joined.{sets_append, joined_more}
use Rattle.composing.specs.Text.{Put}

-- stores past the end change nothing
sets_past : (xs l : List ℕ) (i : ℕ) → length l ≤ i → sets l i xs ≡ l
sets_past [] l i h = refl
sets_past (x ∷ xs) l i h = rw (set_out l i x h) (sets_past xs l (suc i) (omega arith))

-- no text
pub put_none : (a : List ℕ) (i : ℕ) → Put a a i i []
put_none a i = record { stored = refl; ended = omega arith }

pub put_past : (a : List ℕ) (i : ℕ) (xs : List ℕ) → length a ≤ i → Put a a i i xs
put_past a i xs h = record { stored = sym (sets_past xs a i h); ended = omega arith }

-- the same text
pub put_same : {a b : List ℕ} {i j : ℕ} {xs ys : List ℕ} → xs ≡ ys → Put a b i j xs → Put a b i j ys
put_same e p = rw e at p

-- the buffer keeps its length
pub put_length : {a b : List ℕ} {i j : ℕ} {xs : List ℕ} → Put a b i j xs → length b ≡ length a
put_length {a} {b} {i} {j} {xs} p = ap length p.stored ∙ length-sets a i xs

-- where there is room for all of the text
pub put_room : {a b : List ℕ} {i j : ℕ} {xs : List ℕ} → Put a b i j xs → i + length xs ≤ length a → j ≡ i + length xs
put_room p h = omega (arith, p.ended)

pub put_whole : {a b : List ℕ} {i j : ℕ} {xs : List ℕ} → Put a b i j xs → i + length xs ≤ length a → b ≡ take i a ++ xs ++ drop (i + length xs) a
put_whole {a} {b} {i} {j} {xs} p h = p.stored ∙ sets-eq xs a i h

-- a text put from the start on is read back where there is room for all of it
pub put_back : {a b : List ℕ} {j : ℕ} {xs : List ℕ} → Put a b 0 j xs → length xs ≤ length a → take j b ≡ xs
put_back {a} {b} {j} {xs} p h =
    let e : j ≡ length xs = omega (arith, p.ended) in
    let f : b ≡ xs ++ drop (0 + length xs) a = put_whole p (omega arith) in
    rw (e, f) (take-append_seam xs (drop (0 + length xs) a))

-- two texts
pub put_append : {a b c : List ℕ} {i j k : ℕ} {xs ys : List ℕ} → Put a b i j xs → Put b c j k ys → Put a c i k (xs ++ ys)
put_append {a} {b} {c} {i} {j} {k} {xs} {ys} p q =
    record {
      stored = q.stored ∙ ap (λ (l : List ℕ). sets l j ys) p.stored ∙ both (dec_le (i + length xs) (length a));
      ended = omega (arith, p.ended, q.ended, put_length p, length-append xs ys);
    }
  where
    both : Dec (i + length xs ≤ length a) → sets (sets a i xs) j ys ≡ sets a i (xs ++ ys)
    both (yes h) = sets_append xs ys a i j (put_room p h)
    both (no h) =
        sets_past ys (sets a i xs) j (omega (arith, p.ended, length-sets a i xs))
        ∙ sym (sets_past ys (sets a i xs) (i + length xs) (omega (arith, length-sets a i xs)))
        ∙ sets_append xs ys a i (i + length xs) refl

-- three to six
pub put_three : {a b c d : List ℕ} {h i j k : ℕ} {ws xs ys : List ℕ} → Put a b h i ws → Put b c i j xs → Put c d j k ys → Put a d h k (ws ++ (xs ++ ys))
put_three p q r = put_append p (put_append q r)

pub put_four : {a b c d e : List ℕ} {h i j k l : ℕ} {ws xs ys zs : List ℕ} → Put a b h i ws → Put b c i j xs → Put c d j k ys → Put d e k l zs
    → Put a e h l (ws ++ (xs ++ (ys ++ zs)))
put_four p q r s = put_append p (put_three q r s)

pub put_five : {a b c d e f : List ℕ} {h i j k l m : ℕ} {vs ws xs ys zs : List ℕ} → Put a b h i vs → Put b c i j ws → Put c d j k xs → Put d e k l ys
    → Put e f l m zs → Put a f h m (vs ++ (ws ++ (xs ++ (ys ++ zs))))
put_five p q r s t = put_append p (put_four q r s t)

-- the turns of a loop: before the first, and one more
pub put_first : (f : ℕ → List ℕ) (a : List ℕ) (i : ℕ) → Put a a i i (joined (up_to f 0))
unfolding up_to joined
put_first f a i = put_none a i

pub put_more : (f : ℕ → List ℕ) {a b c : List ℕ} {i j k : ℕ} (n : ℕ) → Put a b i j (joined (up_to f n)) → Put b c j k (f n)
    → Put a c i k (joined (up_to f (n + 1)))
put_more f n p q = rw (add-one n, joined_more f n) (put_append p q)

-- a text put in one piece: the part of it for which there is room takes the place of as many bytes
pub put_piece : (a xs ys : List ℕ) (i j : ℕ) → j ≡ i + min (length xs) (length a - i) → i < j → ys ≡ take (j - i) xs → Put a (put_mid i (j - i) a ys) i j xs
put_piece a xs ys i j e some f =
    record {
      stored = piece ∙ stored (dec_le (i + length xs) (length a));
      ended = e;
    }
  where
    n : length ys ≡ j - i
    n = rw f (omega (arith, length-take (j - i) xs))

    piece : put_mid i (j - i) a ys ≡ sets a i ys
    piece =
        rw (drop-drop (j - i) i a)
        (sym (sets-eq ys a i (omega (arith, n)) ∙ append_assoc (take i a) ys (drop (i + length ys) a) ∙ ap (λ m. take i a ++ (ys ++ drop (i + m) a)) n))

    whole : ys ++ drop (j - i) xs ≡ xs
    whole = rw f (take-append-drop (j - i) xs)

    stored : Dec (i + length xs ≤ length a) → sets a i ys ≡ sets a i xs
    stored (yes h) = ap (sets a i) (f ∙ take_all (j - i) xs (omega arith))
    stored (no h) =
        sym (sets_past (drop (j - i) xs) (sets a i ys) j (omega (arith, length-sets a i ys)))
        ∙ sets_append ys (drop (j - i) xs) a i j (omega (arith, n))
        ∙ ap (sets a i) whole

-- and none of it where there is no room
pub put_no_room : (a xs : List ℕ) (i j : ℕ) → j ≡ i + min (length xs) (length a - i) → j ≤ i → Put a a i j xs
put_no_room a xs i j e none =
    let f : j ≡ i = omega arith in
    rw f (stored (dec_le (length a) i))
  where
    stored : Dec (length a ≤ i) → Put a a i i xs
    stored (yes h) = put_past a i xs h
    stored (no h) = rw (nil_from_length xs (omega arith)) (put_none a i)
