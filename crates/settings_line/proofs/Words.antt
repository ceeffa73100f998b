-- The words of a line, one piece after another. Assumes nothing.
use mathlib.Core.Path.{◌≡◌, refl, sym, ap, ◌∙◌}
use mathlib.Core.Bool.{Bool, true, false, not, cond, ◌&&◌, true≢false, false≢true}
use mathlib.Core.List.{List, [], ◌∷◌, ◌++◌, map, map-append, append-nil}
use Prim.Native.Nat.{ℕ, zero, suc, ◌+◌, ◌*◌, ◌≤◌, ◌<◌}
use native.Mathlib.Nat.{zero-add, add-zero}
use native.Mathlib.Decide.{dec_lt}
use native.Mathlib.Omega.{arith}
use lib.ListN.{length, length-append, length-drop, length-map}
use lib.Seq.{sets}
use Rattle.rules.specs.Lists.{every}
use Rattle.laws.proofs.Joined.{sets_append}
use Rattle.scanning.specs.Parts.{fails, before, until, past, pieces}
use Rattle.scanning.specs.Numbers.{is_natural, size_from}
use Rattle.scanning.proofs.Parts.{until_length, until_most}
use Rattle.cells.specs.Cells.{filled}
use Rattle.cells.proofs.CellWalk.{after, pieces_first, pieces_last, pieces_more}
use Rattle.settings_line.specs.Settings.{separates, words_of, wrong_word, settings_of}

-- the words that a piece is
abbrev pub words_in : List ℕ → List (List ℕ)
words_in piece = filled (piece ∷ [])

filled_rest : (x : List ℕ) (xs : List (List ℕ)) → filled (x ∷ xs) ≡ words_in x ++ filled xs
unfolding filled
filled_rest [] xs = refl
filled_rest (b ∷ bs) xs = refl

-- a piece is at most one word, and none where it has no byte
pub words_most : (x : List ℕ) → (length (words_in x) ≤ 1) × (length (words_in x) ≤ length x)
unfolding filled
words_most [] = (omega arith, omega arith)
words_most (b ∷ bs) = (omega arith, omega arith)

-- the piece that it is, where it has one
pub words_none : (x : List ℕ) → length x ≡ 0 → words_in x ≡ []
unfolding filled
words_none [] h = refl
words_none (b ∷ bs) h = absurd (omega arith)

pub words_one : (x : List ℕ) → 0 < length x → words_in x ≡ x ∷ []
unfolding filled
words_one [] h = absurd (omega arith)
words_one (b ∷ bs) h = refl

-- the first piece is the last, or others follow
module _ (xs : List ℕ) where
  pub words_last : length xs ≤ length (until separates xs) → words_of xs ≡ words_in (until separates xs)
  unfolding words_of
  words_last h = ap filled (pieces_last separates xs h)

  pub words_more : length (until separates xs) < length xs → words_of xs ≡ words_in (until separates xs) ++ words_of (past separates xs)
  unfolding words_of
  words_more h = ap filled (pieces_more separates xs h) ∙ filled_rest (until separates xs) (pieces separates (past separates xs))

  -- what is past a piece is shorter by it and its separator
  pub past_length : length (until separates xs) < length xs → length (until separates xs) + 1 + length (past separates xs) ≡ length xs
  unfolding past
  past_length h = omega (arith, until_length separates xs, length-drop (suc (before separates xs)) xs)

  -- those of the first piece are among them
  pub words_first : length (words_in (until separates xs)) ≤ length (words_of xs)
  unfolding words_of
  words_first =
      rw (pieces_first separates xs, filled_rest (until separates xs) (after separates xs), length-append (words_in (until separates xs)) (filled (after separates xs))) (omega arith)

-- a word and its separator are two bytes
pub words_few : (n : ℕ) (xs : List ℕ) → length xs ≤ n → 2 * length (words_of xs) ≤ length xs + 1
words_few zero xs h = rw (words_last xs (omega arith)) (omega (arith, words_most (until separates xs), until_most separates xs))
words_few (suc n) xs h = go (words_few n (past separates xs)) (dec_lt (length (until separates xs)) (length xs))
  where
    go : (length (past separates xs) ≤ n → 2 * length (words_of (past separates xs)) ≤ length (past separates xs) + 1) → Dec (length (until separates xs) < length xs)
        → 2 * length (words_of xs) ≤ length xs + 1
    go few (yes m) =
        rw (words_more xs m, length-append (words_in (until separates xs)) (words_of (past separates xs)))
        (omega (arith, few (omega (arith, past_length xs m)), words_most (until separates xs), past_length xs m))
    go few (no m) = rw (words_last xs (omega arith)) (omega (arith, words_most (until separates xs), until_most separates xs))

-- The first word that is no whole number.

-- its place after n words that are
unfoldable pub wrong_from : ℕ → List (List ℕ) → ℕ
wrong_from n ws = cond (every is_natural ws) 0 (suc (n + before (fails is_natural) ws))

pub wrong_start : (line : List ℕ) → wrong_word line ≡ wrong_from 0 (words_of line)
unfolding wrong_word wrong_from
wrong_start line = rw (zero-add (before (fails is_natural) (words_of line)))

-- whether a piece is such a word
abbrev pub is_wrong : List ℕ → Bool
is_wrong piece = not (every is_natural (words_in piece))

-- it is the first piece, or sought in the others, or there is none
module _ (n : ℕ) where
  wrong_first : (x : List ℕ) (ws : List (List ℕ)) → is_wrong x ≡ true → wrong_from n (words_in x ++ ws) ≡ n + 1
  unfolding wrong_from filled every before
  wrong_first [] ws h = absurd (false≢true h)
  wrong_first (b ∷ bs) ws h = go (is_natural (b ∷ bs)) h
    where
      go : (t : Bool) → not (t && true) ≡ true → cond (t && every is_natural ws) 0 (suc (n + cond (not t) 0 (suc (before (fails is_natural) ws)))) ≡ n + 1
      go true h = absurd (false≢true h)
      go false h = omega arith

  wrong_later : (x : List ℕ) (ws : List (List ℕ)) → is_wrong x ≡ false → wrong_from n (words_in x ++ ws) ≡ wrong_from (n + length (words_in x)) ws
  unfolding wrong_from filled every before
  wrong_later [] ws h = rw (add-zero n)
  wrong_later (b ∷ bs) ws h = go (is_natural (b ∷ bs)) h
    where
      go : (t : Bool) → not (t && true) ≡ false
          → cond (t && every is_natural ws) 0 (suc (n + cond (not t) 0 (suc (before (fails is_natural) ws)))) ≡ cond (every is_natural ws) 0 (suc (n + 1 + before (fails is_natural) ws))
      go true h = ap (λ (m : ℕ). cond (every is_natural ws) 0 (suc m)) (omega arith)
      go false h = absurd (true≢false h)

  module _ (xs : List ℕ) where
    pub wrong_here : is_wrong (until separates xs) ≡ true → wrong_from n (words_of xs) ≡ n + 1
    unfolding words_of
    wrong_here h =
        ap (wrong_from n) (ap filled (pieces_first separates xs) ∙ filled_rest (until separates xs) (after separates xs))
        ∙ wrong_first (until separates xs) (filled (after separates xs)) h

    pub wrong_more : is_wrong (until separates xs) ≡ false → length (until separates xs) < length xs
        → wrong_from n (words_of xs) ≡ wrong_from (n + length (words_in (until separates xs))) (words_of (past separates xs))
    wrong_more h m = ap (wrong_from n) (words_more xs m) ∙ wrong_later (until separates xs) (words_of (past separates xs)) h

    pub wrong_none : is_wrong (until separates xs) ≡ false → length xs ≤ length (until separates xs) → wrong_from n (words_of xs) ≡ 0
    unfolding wrong_from every
    wrong_none h l =
        ap (wrong_from n) (words_last xs l ∙ sym (append-nil (words_in (until separates xs)))) ∙ wrong_later (until separates xs) [] h

-- The settings.

pub settings_count : (xs : List ℕ) → length (settings_of xs) ≡ length (words_of xs)
unfolding settings_of
settings_count xs = length-map (words_of xs) (size_from 0)

pub settings_last : (xs : List ℕ) → length xs ≤ length (until separates xs) → settings_of xs ≡ map (size_from 0) (words_in (until separates xs))
unfolding settings_of
settings_last xs h = ap (map (size_from 0)) (words_last xs h)

-- those of the first piece at place n, and then the others
pub settings_more : (xs list : List ℕ) (n : ℕ) → length (until separates xs) < length xs
    → sets list n (settings_of xs)
    ≡ sets (sets list n (map (size_from 0) (words_in (until separates xs)))) (n + length (words_in (until separates xs))) (settings_of (past separates xs))
unfolding settings_of
settings_more xs list n h =
    let first = words_in (until separates xs) in
    ap (λ (l : List (List ℕ)). sets list n (map (size_from 0) l)) (words_more xs h)
    ∙ ap (sets list n) (map-append (size_from 0) first (words_of (past separates xs)))
    ∙ sym (sets_append (map (size_from 0) first) (map (size_from 0) (words_of (past separates xs))) list n (n + length first) (omega (arith, length-map first (size_from 0))))
