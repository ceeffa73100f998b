-- The cells of a text, one after another: the first of them and those after it, or none. Assumes nothing.
use mathlib.Core.Path.{◌≡◌, refl, sym, ap, ◌∙◌}
use mathlib.Core.Bool.{Bool, true, false, not, cond, ◌&&◌, ◌||◌}
use mathlib.Core.List.{List, [], ◌∷◌, ◌++◌, map}
use Prim.Native.Nat.{ℕ, suc, ◌≤◌, ◌<◌, zero-le}
use native.Mathlib.Decide.{dec_lt}
use native.Mathlib.Omega.{arith}
use lib.Dec.{eqb}
use lib.ListN.{length, get_or, take, drop, length-drop}
use Rattle.rules.specs.Lists.{every}
use Rattle.composing.specs.Text.{ascii}
use Rattle.scanning.specs.Parts.{among, fails, before, until, from, past, onto, pieces}
use Rattle.scanning.proofs.Parts.{until_length}
use Rattle.separating.specs.Separators.{decides, separators, is_over, from_cell}
use Rattle.cells.specs.Cells.{unspaced, trimmed, unquoted, cell_from, filled, used, cells_by, cells_of, decider, cells_text, first_cell_of, after_cell}

module _ (p : ℕ → Bool) where
  -- the pieces after the first
  unfoldable pub after : List ℕ → List (List ℕ)
  after [] = []
  after (b ∷ bs) = cond (p b) (pieces p bs) (after bs)

  pub pieces_first : (xs : List ℕ) → pieces p xs ≡ until p xs ∷ after xs
  unfolding pieces before after onto until
  pieces_first [] = refl
  pieces_first (b ∷ bs) = go (p b) (pieces_first bs)
    where
      go : (t : Bool) → pieces p bs ≡ until p bs ∷ after bs
          → cond t ([] ∷ pieces p bs) (onto b (pieces p bs)) ≡ take (cond t 0 (suc (before p bs))) (b ∷ bs) ∷ cond t (pieces p bs) (after bs)
      go true h = refl
      go false h = rw h

  after_last : (xs : List ℕ) → length xs ≤ before p xs → after xs ≡ []
  unfolding before after
  after_last [] h = refl
  after_last (b ∷ bs) h = go (p b) (after_last bs) h
    where
      go : (t : Bool) → (length bs ≤ before p bs → after bs ≡ []) → suc (length bs) ≤ cond t 0 (suc (before p bs)) → cond t (pieces p bs) (after bs) ≡ []
      go true f k = absurd (omega arith)
      go false f k = f (omega arith)

  after_more : (xs : List ℕ) → before p xs < length xs → after xs ≡ pieces p (past p xs)
  unfolding before after past
  after_more [] h = absurd (omega arith)
  after_more (b ∷ bs) h = go (p b) (after_more bs) h
    where
      go : (t : Bool) → (before p bs < length bs → after bs ≡ pieces p (past p bs)) → cond t 0 (suc (before p bs)) < suc (length bs)
          → cond t (pieces p bs) (after bs) ≡ pieces p (drop (suc (cond t 0 (suc (before p bs)))) (b ∷ bs))
      go true f k = refl
      go false f k = f (omega arith)

  -- those of what stands past it, but where an empty piece does not count
  pub after_past : {X : Type 0} (f : List (List ℕ) → X) → f [] ≡ f ([] ∷ []) → (xs : List ℕ) → f (after xs) ≡ f (pieces p (past p xs))
  unfolding pieces before after past
  after_past f e [] = e
  after_past f e (b ∷ bs) = go (p b) (after_past f e bs)
    where
      go : (t : Bool) → f (after bs) ≡ f (pieces p (past p bs))
          → f (cond t (pieces p bs) (after bs)) ≡ f (pieces p (drop (suc (cond t 0 (suc (before p bs)))) (b ∷ bs)))
      go true h = refl
      go false h = h

  -- a text whose first piece is all of it, and another
  pub pieces_last : (xs : List ℕ) → length xs ≤ length (until p xs) → pieces p xs ≡ until p xs ∷ []
  pieces_last xs h = pieces_first xs ∙ ap (λ (l : List (List ℕ)). until p xs ∷ l) (after_last xs (rw (until_length p xs) at h))

  pub pieces_more : (xs : List ℕ) → length (until p xs) < length xs → pieces p xs ≡ until p xs ∷ pieces p (past p xs)
  pieces_more xs h = pieces_first xs ∙ ap (λ (l : List (List ℕ)). until p xs ∷ l) (after_more xs (rw (until_length p xs) at h))

  pub past_shorter : (xs : List ℕ) → length (until p xs) < length xs → length (past p xs) < length xs
  unfolding past
  past_shorter xs h = omega (arith, length-drop (suc (before p xs)) xs)

  -- separators in front make no filled piece, and then one comes first
  filled_from : (xs : List ℕ) → filled (pieces p xs) ≡ filled (pieces p (from (fails p) xs))
  unfolding filled pieces before from
  filled_from [] = refl
  filled_from (b ∷ bs) = go (p b) refl (filled_from bs)
    where
      go : (t : Bool) → p b ≡ t → filled (pieces p bs) ≡ filled (pieces p (from (fails p) bs))
          → filled (cond t ([] ∷ pieces p bs) (onto b (pieces p bs))) ≡ filled (pieces p (drop (cond (not t) 0 (suc (before (fails p) bs))) (b ∷ bs)))
      go true e h = h
      go false e h = rw e

  first_some : (xs : List ℕ) → 0 < length (from (fails p) xs) → 0 < length (until p (from (fails p) xs))
  unfolding before from until
  first_some [] h = h
  first_some (b ∷ bs) h = go (p b) refl (first_some bs) h
    where
      go : (t : Bool) → p b ≡ t → (0 < length (from (fails p) bs) → 0 < length (until p (from (fails p) bs)))
          → 0 < length (drop (cond (not t) 0 (suc (before (fails p) bs))) (b ∷ bs))
          → 0 < length (until p (drop (cond (not t) 0 (suc (before (fails p) bs))) (b ∷ bs)))
      go true e f k = f k
      go false e f k = rw e (omega arith)

filled_first : (w : List ℕ) (ws : List (List ℕ)) → 0 < length w → filled (w ∷ ws) ≡ w ∷ filled ws
unfolding filled
filled_first [] ws h = absurd (omega arith)
filled_first (b ∷ bs) ws h = refl

nothing : (xs : List ℕ) → length xs ≤ 0 → xs ≡ []
nothing [] h = refl
nothing (b ∷ bs) h = absurd (omega arith)

-- whether nothing but spaces and quotes stands in any piece
abbrev empty : List (List ℕ) → Bool
empty ps = every (every (among (ascii " \""))) ps

empty_filled : (ps : List (List ℕ)) → empty (filled ps) ≡ empty ps
unfolding every filled
empty_filled [] = refl
empty_filled ([] ∷ ps) = empty_filled ps
empty_filled ((b ∷ bs) ∷ ps) = rw (empty_filled ps)

used_none : (ps : List (List ℕ)) → empty ps ≡ true → used ps ≡ []
unfolding used
used_none [] h = refl
used_none (x ∷ xs) h = rw h

used_some : (x : List ℕ) (xs : List (List ℕ)) → empty (x ∷ xs) ≡ false → used (x ∷ xs) ≡ x ∷ used xs
unfolding used
used_some x xs h = rw h

among_append : (ss bs : List ℕ) (b : ℕ) → among (ss ++ bs) b ≡ among ss b || among bs b
unfolding among
among_append [] bs b = refl
among_append (a ∷ ss) bs b = go (eqb b a) (among_append ss bs b)
  where
    go : (t : Bool) → among (ss ++ bs) b ≡ among ss b || among bs b → t || among (ss ++ bs) b ≡ (t || among ss b) || among bs b
    go true h = refl
    go false h = h

and_assoc : (a b c : Bool) → (a && b) && c ≡ a && (b && c)
and_assoc true b c = refl
and_assoc false b c = refl

-- that is so where nothing but separators, spaces and quotes stands in the text
empty_pieces : (ss xs : List ℕ) → empty (pieces (among ss) xs) ≡ every (among (ss ++ ascii " \"")) xs
unfolding every pieces onto
empty_pieces ss [] = refl
empty_pieces ss (b ∷ bs) = go (among ss b) refl (empty_pieces ss bs)
  where
    go : (t : Bool) → among ss b ≡ t → empty (pieces (among ss) bs) ≡ every (among (ss ++ ascii " \"")) bs
        → empty (cond t ([] ∷ pieces (among ss) bs) (onto b (pieces (among ss) bs))) ≡ among (ss ++ ascii " \"") b && every (among (ss ++ ascii " \"")) bs
    go true e h = rw (among_append ss (ascii " \"") b, e) h
    go false e h =
        rw (among_append ss (ascii " \"") b, e, ← h, pieces_first (among ss) bs)
        (and_assoc (among (ascii " \"") b) (every (among (ascii " \"")) (until (among ss) bs)) (empty (after (among ss) bs)))

module _ (s : ℕ) where
  abbrev p : ℕ → Bool
  p = among (separators s)

  -- where no cell is left
  pub walk_over : (xs : List ℕ) → length (from_cell s xs) ≤ 0 → cells_by s xs ≡ []
  unfolding from_cell is_over cells_by used every pieces filled
  walk_over xs h = go (is_over s xs) refl (decides s) h
    where
      go : (t : Bool) → is_over s xs ≡ t → (u : Bool) → length (cond t [] (cond u xs (from (fails p) xs))) ≤ 0
          → map cell_from (used (cond u (pieces p xs) (filled (pieces p xs)))) ≡ []
      go true e true k = ap (map cell_from) (used_none (pieces p xs) (empty_pieces (separators s) xs ∙ e))
      go true e false k = ap (map cell_from) (used_none (filled (pieces p xs)) (empty_filled (pieces p xs) ∙ empty_pieces (separators s) xs ∙ e))
      go false e true k = rw (nothing xs k)
      go false e false k = rw (filled_from p xs, nothing (from (fails p) xs) k)

  -- where one is left
  pub walk_more : (xs : List ℕ) → 0 < length (from_cell s xs) → cells_by s xs ≡ first_cell_of s xs ∷ cells_by s (after_cell s xs)
  unfolding from_cell is_over first_cell_of after_cell cells_by used every filled
  walk_more xs h = go (is_over s xs) refl (decides s) h
    where
      go : (t : Bool) → is_over s xs ≡ t → (u : Bool) → 0 < length (cond t [] (cond u xs (from (fails p) xs)))
          → map cell_from (used (cond u (pieces p xs) (filled (pieces p xs))))
          ≡ cell_from (until p (cond t [] (cond u xs (from (fails p) xs))))
          ∷ map cell_from (used (cond u (pieces p (past p (cond t [] (cond u xs (from (fails p) xs))))) (filled (pieces p (past p (cond t [] (cond u xs (from (fails p) xs))))))))
      go true e u k = absurd (omega arith)
      go false e true k =
          let first = pieces_first p xs in
          ap (map cell_from)
          (ap used first
          ∙ used_some (until p xs) (after p xs) (sym (ap empty first) ∙ empty_pieces (separators s) xs ∙ e)
          ∙ ap (λ (l : List (List ℕ)). until p xs ∷ l) (after_past p used refl xs))
      go false e false k =
          let ys = from (fails p) xs in
          let first = filled_from p xs ∙ ap filled (pieces_first p ys) ∙ filled_first (until p ys) (after p ys) (first_some p xs k) in
          ap (map cell_from)
          (ap used first
          ∙ used_some (until p ys) (filled (after p ys)) (sym (ap empty first) ∙ empty_filled (pieces p xs) ∙ empty_pieces (separators s) xs ∙ e)
          ∙ ap (λ (l : List (List ℕ)). until p ys ∷ l) (after_past p (λ (l : List (List ℕ)). used (filled l)) refl ys))

  -- what comes after a cell is shorter
  from_most : (xs : List ℕ) → length (from_cell s xs) ≤ length xs
  unfolding from_cell from
  from_most xs = go (is_over s xs) (decides s)
    where
      go : (t u : Bool) → length (cond t [] (cond u xs (drop (before (fails p) xs) xs))) ≤ length xs
      go true u = zero-le
      go false true = omega arith
      go false false = omega (arith, length-drop (before (fails p) xs) xs)

  pub walk_shorter : (xs : List ℕ) → 0 < length (from_cell s xs) → length (after_cell s xs) < length xs
  unfolding after_cell past
  walk_shorter xs h = omega (arith, from_most xs, length-drop (suc (before p (from_cell s xs))) (from_cell s xs))

  -- the first cell, and those after it, where there are any
  pub walk_first : (xs : List ℕ) → get_or (cells_by s xs) 0 [] ≡ first_cell_of s xs
  unfolding first_cell_of cell_from until before trimmed unquoted from unspaced
  walk_first xs = go (dec_lt 0 (length (from_cell s xs)))
    where
      go : Dec (0 < length (from_cell s xs)) → get_or (cells_by s xs) 0 [] ≡ first_cell_of s xs
      go (yes h) = rw (walk_more xs h)
      go (no h) = rw (walk_over xs (omega arith), nothing (from_cell s xs) (omega arith))

  pub walk_rest : (xs : List ℕ) → cells_by s (after_cell s xs) ≡ drop 1 (cells_by s xs)
  unfolding after_cell past from_cell is_over every before
  walk_rest xs = go (dec_lt 0 (length (from_cell s xs)))
    where
      go : Dec (0 < length (from_cell s xs)) → cells_by s (after_cell s xs) ≡ drop 1 (cells_by s xs)
      go (yes h) = rw (walk_more xs h)
      go (no h) = rw (walk_over xs (omega arith), nothing (from_cell s xs) (omega arith)) (walk_over [] (omega arith))

-- the cells of a line are those of its text
pub cells_are : (line : List ℕ) (s : ℕ) (xs : List ℕ) → s ≡ decider line → xs ≡ cells_text line → cells_of line ≡ cells_by s xs
unfolding cells_of cells_text decider
cells_are line s xs e f = rw (f, e)

-- a walk that stops at the first cell that fails a test: it is here, or later, or there is none
module _ (p : List ℕ → Bool) (s : ℕ) (xs : List ℕ) where
  pub lead_here : 0 < length (from_cell s xs) → p (first_cell_of s xs) ≡ false → (before (fails p) (cells_by s xs) ≡ 0) × (every p (cells_by s xs) ≡ false)
  unfolding before every
  lead_here h e = rw (walk_more s xs h, e) (refl, refl)

  pub lead_more : 0 < length (from_cell s xs) → p (first_cell_of s xs) ≡ true
      → (before (fails p) (cells_by s xs) ≡ suc (before (fails p) (cells_by s (after_cell s xs)))) × (every p (cells_by s xs) ≡ every p (cells_by s (after_cell s xs)))
  unfolding before every
  lead_more h e = rw (walk_more s xs h, e) (refl, refl)

  pub lead_over : length (from_cell s xs) ≤ 0 → (before (fails p) (cells_by s xs) ≡ 0) × (every p (cells_by s xs) ≡ true)
  unfolding before every
  lead_over h = rw (walk_over s xs h) (refl, refl)
