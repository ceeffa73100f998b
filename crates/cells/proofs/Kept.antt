-- Where a byte decides for a line, nothing of the line is lost: the pieces, each with that byte after it, are the text again, and those that give
-- no cell are at the end and have nothing but spaces and quotes. Assumes nothing.
use mathlib.Core.Path.{◌≡◌, refl, sym, ap, ◌∙◌}
use mathlib.Core.Bool.{Bool, true, false, cond, ◌||◌}
use mathlib.Core.List.{List, [], ◌∷◌, ◌++◌, append_assoc}
use Prim.Native.Nat.{ℕ}
use borrow.Author.Tests.{eqb-true}
use lib.Dec.{eqb}
use Rattle.rules.specs.Lists.{every}
use Rattle.composing.specs.Text.{ascii}
use Rattle.scanning.specs.Parts.{among, onto, pieces}
use Rattle.separating.specs.Separators.{decides, separators}
use Rattle.cells.specs.Cells.{used}
use Rattle.cells.proofs.CellWalk.{pieces_first}

-- pieces, each with the byte s after it
abbrev pub ended : ℕ → List (List ℕ) → List ℕ
ended s [] = []
ended s (x ∷ xs) = x ++ (s ∷ ended s xs)

-- the pieces of a text give it back
pub pieces_ended : (s : ℕ) (p : ℕ → Bool) → ((b : ℕ) → p b ≡ true → b ≡ s) → (text : List ℕ) → ended s (pieces p text) ≡ text ++ (s ∷ [])
unfolding pieces onto
pieces_ended s p only [] = refl
pieces_ended s p only (b ∷ bs) = go (p b) refl (pieces_ended s p only bs)
  where
    go : (t : Bool) → p b ≡ t → ended s (pieces p bs) ≡ bs ++ (s ∷ [])
        → ended s (cond t ([] ∷ pieces p bs) (onto b (pieces p bs))) ≡ b ∷ (bs ++ (s ∷ []))
    go true e h = rw (only b e, h)
    go false e h = rw (pieces_first p bs) (ap (λ (l : List ℕ). b ∷ l) (rw (pieces_first p bs) at h))

-- the pieces that give cells come first
used_first : (ps : List (List ℕ)) → (rest : List (List ℕ)) × ((used ps ++ rest ≡ ps) × (every (every (among (ascii " \""))) rest ≡ true))
unfolding used every
used_first [] = ([], (refl, refl))
used_first (x ∷ xs) = go (every (every (among (ascii " \""))) (x ∷ xs)) refl (used_first xs)
  where
    go : (t : Bool) → every (every (among (ascii " \""))) (x ∷ xs) ≡ t
        → (rest : List (List ℕ)) × ((used xs ++ rest ≡ xs) × (every (every (among (ascii " \""))) rest ≡ true))
        → (rest : List (List ℕ)) × ((cond t [] (x ∷ used xs) ++ rest ≡ x ∷ xs) × (every (every (among (ascii " \""))) rest ≡ true))
    go true e h = (x ∷ xs, (refl, e))
    go false e (rest, (same, empty)) = (rest, (ap (λ (l : List (List ℕ)). x ∷ l) same, empty))

ended_append : (s : ℕ) (xs ys : List (List ℕ)) → ended s (xs ++ ys) ≡ ended s xs ++ ended s ys
ended_append s [] ys = refl
ended_append s (x ∷ xs) ys = rw (ended_append s xs ys) (sym (append_assoc x (s ∷ ended s xs) (ended s ys)))

only_s : (s b : ℕ) → among (s ∷ s ∷ []) b ≡ true → b ≡ s
unfolding among
only_s s b h = go (eqb b s) refl h
  where
    go : (t : Bool) → eqb b s ≡ t → t || (t || false) ≡ true → b ≡ s
    go true e k = eqb-true b s e
    go false e k = eqb-true b s (e ∙ k)

-- the text of a line's cells is the pieces that give its cells, in order, each with the separator after it, and then empty ones
pub nothing_lost : (s : ℕ) (text : List ℕ) → decides s ≡ true
    → (rest : List (List ℕ)) × ((ended s (used (pieces (among (separators s)) text)) ++ ended s rest ≡ text ++ (s ∷ []))
    × (every (every (among (ascii " \""))) rest ≡ true))
unfolding separators
nothing_lost s text h =
    let ps = pieces (among (separators s)) text in
    let (rest, (same, empty)) = used_first ps in
    let only : (b : ℕ) → among (separators s) b ≡ true → b ≡ s = rw h (only_s s) in
    (rest, (sym (ended_append s (used ps) rest) ∙ ap (ended s) same ∙ pieces_ended s (among (separators s)) only text, empty))
