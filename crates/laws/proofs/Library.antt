-- The rules' words for lists are the library's, which say what its methods give. Assumes nothing.
use mathlib.Core.Path.{◌≡◌, refl, sym, ap, ◌∙◌}
use mathlib.Core.Bool.{Bool, ◌&&◌}
use mathlib.Core.List.{List, [], ◌∷◌}
use Prim.Native.Nat.{ℕ, ◌+◌}
use native.Mathlib.Omega.{arith}
use Rattle.std.specs.List.{list_all, sum, fold}
use Rattle.rules.specs.Lists.{total, every}

-- whether every entry passes a test is what `all` answers
pub every_is_all : {A : Type 0} (p : A → Bool) (xs : List A) → every p xs ≡ list_all p xs
unfolding every
every_is_all p [] = refl
every_is_all p (x ∷ xs) = ap (λ b. p x && b) (every_is_all p xs)

sum_from : (n : ℕ) (xs : List ℕ) → fold (λ a x. a + x) n xs ≡ n + total xs
unfolding total
sum_from n [] = omega arith
sum_from n (x ∷ xs) = sum_from (n + x) xs ∙ omega arith

-- the total of a list is what `sum` answers
pub total_is_sum : (xs : List ℕ) → total xs ≡ sum xs
total_is_sum xs = omega arith ∙ sym (sum_from 0 xs)
