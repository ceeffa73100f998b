-- A text of some, none of which is longer than a most. Assumes nothing.
use mathlib.Core.Path.{◌≡◌}
use mathlib.Core.Bool.{true}
use mathlib.Core.List.{List, [], ◌∷◌}
use Prim.Native.Nat.{ℕ, zero, suc, ◌≤◌}
use borrow.Author.Tests.{leb-true}
use lib.Dec.{leb}
use lib.ListN.{length, get_or}
use Rattle.rules.specs.Lists.{every}
use Rattle.laws.proofs.Lists.{both_left, both_right}

pub each_most : (b : ℕ) (other : List ℕ) (xss : List (List ℕ)) → length other ≤ b → every (λ l. leb (length l) b) xss ≡ true → (m : ℕ) → length (get_or xss m other) ≤ b
unfolding every
each_most b other [] l h m = l
each_most b other (xs ∷ xss) l h zero = leb-true (length xs) b (both_left (leb (length xs) b) (every (λ l. leb (length l) b) xss) h)
each_most b other (xs ∷ xss) l h (suc m) = each_most b other xss l (both_right (leb (length xs) b) (every (λ l. leb (length l) b) xss) h) m
