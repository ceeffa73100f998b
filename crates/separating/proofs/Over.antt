-- What is left of a text where no cell is. Assumes nothing.
use mathlib.Core.Path.{◌≡◌, refl}
use mathlib.Core.Bool.{Bool, true, false, not, cond, ◌&&◌}
use mathlib.Core.List.{List, [], ◌∷◌, ◌++◌}
use Prim.Native.Nat.compare
use Prim.Native.Nat.{ℕ, suc}
use native.Mathlib.Omega.{arith}
use borrow.Author.Tests.{ne_eqb}
use lib.Dec.{eqb}
use lib.ListN.{length, get_or}
use Rattle.rules.specs.Lists.{every}
use Rattle.composing.specs.Text.{ascii}
use Rattle.scanning.specs.Parts.{among, fails, before}
use Rattle.separating.specs.Separators.{decides, separators, is_over}

-- every entry passes where none is found that does not
pub every_before : {A : Type 0} (p : A → Bool) (xs : List A) → eqb (before (fails p) xs) (length xs) ≡ every p xs
unfolding before every
every_before p [] = refl
every_before p (x ∷ xs) = go (p x) (every_before p xs)
  where
    go : (t : Bool) → eqb (before (fails p) xs) (length xs) ≡ every p xs
        → eqb (cond (not t) 0 (suc (before (fails p) xs))) (suc (length xs)) ≡ t && every p xs
    go true h = rw (compare.suc-suc) h
    go false h = ne_eqb 0 (suc (length xs)) (λ e. omega arith)

pub every_is : (set xs : List ℕ) (n : ℕ) → n ≡ before (fails (among set)) xs → eqb n (length xs) ≡ every (among set) xs
every_is set xs n e = rw e (every_before (among set) xs)

four : (s : ℕ) → get_or (separators s) 0 0 ∷ get_or (separators s) 1 0 ∷ 32 ∷ 34 ∷ [] ≡ separators s ++ ascii " \""
unfolding separators
four s = go (decides s)
  where
    go : (t : Bool) → get_or (cond t (s ∷ s ∷ []) (ascii " \t")) 0 0 ∷ get_or (cond t (s ∷ s ∷ []) (ascii " \t")) 1 0 ∷ 32 ∷ 34 ∷ []
        ≡ cond t (s ∷ s ∷ []) (ascii " \t") ++ ascii " \""
    go true = refl
    go false = refl

-- the bytes that may stand where no cell is left
pub over_is : (s : ℕ) (xs two : List ℕ) (n : ℕ) → two ≡ separators s
    → n ≡ before (fails (among (get_or two 0 0 ∷ get_or two 1 0 ∷ 32 ∷ 34 ∷ []))) xs → eqb n (length xs) ≡ is_over s xs
unfolding is_over
over_is s xs two n e f = every_is (separators s ++ ascii " \"") xs n (rw (e, four s) at f)
