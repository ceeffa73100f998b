-- Parts of a text: bytes of a set, what stands before and after them, and the pieces between them. Assumes nothing.
use Rattle.std.specs.Prelude.{ℕ, suc, Bool, true, false, not, cond, ◌&&◌, ◌||◌, List, [], ◌∷◌, eqb, take, drop}

-- whether a byte is one of these
unfoldable pub among : List ℕ → ℕ → Bool
among [] b = false
among (x ∷ xs) b = eqb b x || among xs b

-- the test that says no where p says yes
abbrev pub fails : {A : Type 0} → (A → Bool) → A → Bool
fails p = λ x. not (p x)

-- one of these, or, where that is not wanted, none of them
abbrev pub meets : Bool → List ℕ → ℕ → Bool
meets wanted set = cond wanted (among set) (fails (among set))

-- how many entries come before the first that the test takes
unfoldable pub before : {A : Type 0} → (A → Bool) → List A → ℕ
before p [] = 0
before p (x ∷ xs) = cond (p x) 0 (suc (before p xs))

-- a text up to the first byte that the test takes, from it on, and past it
unfoldable pub until : (ℕ → Bool) → List ℕ → List ℕ
until p xs = take (before p xs) xs

unfoldable pub from : (ℕ → Bool) → List ℕ → List ℕ
from p xs = drop (before p xs) xs

unfoldable pub past : (ℕ → Bool) → List ℕ → List ℕ
past p xs = drop (suc (before p xs)) xs

-- a byte in front of the first piece
unfoldable pub onto : ℕ → List (List ℕ) → List (List ℕ)
onto b [] = (b ∷ []) ∷ []
onto b (x ∷ xs) = (b ∷ x) ∷ xs

-- the pieces of a text between the bytes that the test takes, in order, empty ones too
unfoldable pub pieces : (ℕ → Bool) → List ℕ → List (List ℕ)
pieces p [] = [] ∷ []
pieces p (b ∷ bs) = cond (p b) ([] ∷ pieces p bs) (onto b (pieces p bs))

-- whether two texts are the same
unfoldable pub same_text_of : List ℕ → List ℕ → Bool
same_text_of [] [] = true
same_text_of [] (y ∷ ys) = false
same_text_of (x ∷ xs) [] = false
same_text_of (x ∷ xs) (y ∷ ys) = eqb x y && same_text_of xs ys
