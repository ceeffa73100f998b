-- The words for parts of a text are the library's, which say what its methods give. Assumes nothing.
use mathlib.Core.Path.{◌≡◌, refl, sym, ap, ◌∙◌}
use mathlib.Core.Bool.{Bool, true, false, ◌&&◌, ◌||◌, not, cond}
use mathlib.Core.List.{List, [], ◌∷◌}
use Prim.Native.Nat.{ℕ, suc, ◌+◌, ◌≤◌, ◌<◌}
use native.Mathlib.Decide.{dec_lt}
use native.Mathlib.Omega.{arith}
use borrow.Author.Tests.{lt-ltb, le-ltb}
use lib.ListN.{length}
use Rattle.std.specs.List.{list_any, position, position_or_len}
use Rattle.std.specs.Prelude.{nat_eq, unwrap_or}
use Rattle.std.specs.Str.{bytes_eq}
use Rattle.scanning.specs.Parts.{among, before, same_text_of}
use Rattle.scanning.proofs.Parts.{before_most}

pub among_is_any : (xs : List ℕ) (b : ℕ) → among xs b ≡ list_any (λ x. nat_eq b x) xs
unfolding among
among_is_any [] b = refl
among_is_any (x ∷ xs) b = ap (λ t. nat_eq b x || t) (among_is_any xs b)

pub before_is_position : {A : Type 0} (p : A → Bool) (xs : List A) → before p xs ≡ position_or_len p xs
unfolding before
before_is_position p [] = refl
before_is_position p (x ∷ xs) = go (p x) (before_is_position p xs)
  where
    go : (t : Bool) → before p xs ≡ position_or_len p xs → cond t 0 (suc (before p xs)) ≡ cond (not t) (1 + position_or_len p xs) 0
    go true e = refl
    go false e = omega (arith, e)

-- the place of the first that the test takes, or the length where there is none
pub before_is_found : {A : Type 0} (p : A → Bool) (xs : List A) (n : ℕ) → n ≡ unwrap_or (position p xs) (length xs) → (n ≡ before p xs) × (n ≤ length xs)
before_is_found {A} p xs n e = go (dec_lt (position_or_len p xs) (length xs))
  where
    b : before p xs ≡ position_or_len p xs
    b = before_is_position p xs

    go : Dec (position_or_len p xs < length xs) → (n ≡ before p xs) × (n ≤ length xs)
    go (yes h) =
        let f : n ≡ position_or_len p xs = rw (lt-ltb (position_or_len p xs) (length xs) h) at e in
        (f ∙ sym b, omega arith)
    go (no h) =
        let f : n ≡ length xs = rw (le-ltb (position_or_len p xs) (length xs) (omega arith)) at e in
        let m : before p xs ≤ length xs = before_most p xs in
        (omega (arith, b, f, m), omega (arith, f))

pub same_is_eq : (xs ys : List ℕ) → same_text_of xs ys ≡ bytes_eq xs ys
unfolding same_text_of
same_is_eq [] [] = refl
same_is_eq [] (y ∷ ys) = refl
same_is_eq (x ∷ xs) [] = refl
same_is_eq (x ∷ xs) (y ∷ ys) = ap (λ t. nat_eq x y && t) (same_is_eq xs ys)
