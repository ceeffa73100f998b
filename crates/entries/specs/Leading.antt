-- How far a loop goes that stops at the first entry that fails a test. Assumes nothing.
use Rattle.std.specs.Prelude.{ℕ, zero, suc, Bool, ◌&&◌, cond, List, [], ◌∷◌, eqb}

-- how many of 0, .., n − 1 pass the test before the first that does not
unfoldable pub leading : (ℕ → Bool) → ℕ → ℕ
leading p zero = 0
leading p (suc n) = cond (eqb (leading p n) n && p n) (suc n) (leading p n)

-- how many of them are asked, that first one too
unfoldable pub asked : (ℕ → Bool) → ℕ → ℕ
asked p n = cond (eqb (leading p n) n) n (suc (leading p n))

-- the entries of a list before the first that fails the test
unfoldable pub passing : {A : Type 0} → (A → Bool) → List A → List A
passing p [] = []
passing p (x ∷ xs) = cond (p x) (x ∷ passing p xs) []
