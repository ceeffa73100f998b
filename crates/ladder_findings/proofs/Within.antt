-- The first completed cumulative above the most: where question 14 says no there is one, and the row and the years before it tell where. Assumes nothing.
use Prim.Native.Nat.{ℕ, zero, suc, ◌+◌, ◌-◌, ◌*◌, ◌/◌, ◌≤◌, ◌<◌}
use native.Mathlib.Omega.{arith}
use mathlib.Core.Path.{◌≡◌, refl, sym, ap, ◌∙◌}
use mathlib.Core.Bool.{Bool, true, false, ◌&&◌}
use mathlib.Core.List.{List, [], ◌∷◌}
use lib.Dec.{leb}
use lib.IntN.{pos}
use lib.ListN.{get_or}
use Rattle.rules.specs.Lists.{up_to, below, joined, every}
use Rattle.rules.specs.Record.{million}
use Rattle.rules.specs.Triangle.{most_cumulative}
use Rattle.rules.specs.Ladder.{completed, completed_row, completed_all, completed_pass}
use Rattle.laws.proofs.Lists.{every_append, every_same}
use Rattle.laws.proofs.Joined.{joined_more}
use Rattle.entries.specs.Leading.{leading}
use Rattle.entries.proofs.Leading.{leading_all}
use Rattle.reasons.proofs.Counted.{counted, stops_below}
use Rattle.finding.specs.Places.{cell, found}
use Rattle.ladder_findings.specs.LadderFindings.{first_row_over, years_within, cell_finding}

and_true : (b : Bool) → b && true ≡ b
and_true true = refl
and_true false = refl

-- the last of the numbers apart
last_apart : (p : ℕ → Bool) (n : ℕ) → every p (below (suc n)) ≡ every p (below n) && p n
unfolding up_to every
last_apart p n = every_append p (up_to (λ i. i) n) (n ∷ []) ∙ ap (λ (b : Bool). every p (up_to (λ i. i) n) && b) (and_true (p n))

-- every entry of rows one after another passes where every row does
rows_every : {A : Type 0} (p : A → Bool) (f : ℕ → List A) (n : ℕ) → every p (joined (up_to f n)) ≡ every (λ i. every p (f i)) (below n)
unfolding up_to joined every
rows_every p f zero = refl
rows_every p f (suc n) = rw (joined_more f n, every_append p (joined (up_to f n)) (f n), rows_every p f n) (sym (last_apart (λ i. every p (f i)) n))

module _ (k : ℕ) (c m : List ℕ) where
  -- question 14 of a row, and of a cell, t + 1 years past the diagonal
  abbrev pub row_passes : ℕ → Bool
  row_passes i = every (λ x. leb x most_cumulative) (completed_row k c m i)

  abbrev pub cell_passes : ℕ → ℕ → Bool
  cell_passes i t = leb (completed k c m i (suc t)) most_cumulative

  row_cells : (i : ℕ) → row_passes i ≡ every (cell_passes i) (below i)
  unfolding completed_row
  row_cells i = every_same _ _ (λ t. completed k c m i (suc t)) (λ t. t) i (λ t l. refl)

  -- a row passes where all its years are within, and only then
  pub row_yes : (i : ℕ) → i ≤ years_within k c m i → row_passes i ≡ true
  unfolding years_within
  row_yes i l =
      let n = counted (cell_passes i) i in
      let e : leading (cell_passes i) i ≡ i = omega (arith, n.most) in
      row_cells i ∙ (rw e at n.before)

  pub row_no : (i : ℕ) → years_within k c m i < i → row_passes i ≡ false
  unfolding years_within
  row_no i l = go (row_passes i) refl
    where
      go : (b : Bool) → row_passes i ≡ b → row_passes i ≡ false
      go true e = let all = leading_all (cell_passes i) i (sym (row_cells i) ∙ e) in absurd (omega (arith, all, l))
      go false e = e

  -- where question 14 says no
  module _ (no : completed_pass (completed_all k c m) ≡ false) where
    pub row_within : first_row_over k c m < k + 1
    unfolding completed_pass completed_all first_row_over
    row_within = stops_below row_passes (k + 1) (sym (rows_every (λ x. leb x most_cumulative) (completed_row k c m) (k + 1)) ∙ no)

    row_refused : row_passes (first_row_over k c m) ≡ false
    unfolding first_row_over
    row_refused = (counted row_passes (k + 1)).stop row_within

    pub years_within_lem : years_within k c m (first_row_over k c m) < first_row_over k c m
    unfolding years_within
    years_within_lem = let i = first_row_over k c m in stops_below (cell_passes i) i (sym (row_cells i) ∙ row_refused)

    -- the cell that is named is past the diagonal, in a row of the years 0 to k, and its completed cumulative is above the most
    pub named_row : first_row_over k c m ≤ k
    named_row = omega (arith, row_within)

    pub named_no : leb (completed k c m (first_row_over k c m) (suc (years_within k c m (first_row_over k c m)))) most_cumulative ≡ false
    unfolding years_within
    named_no = let i = first_row_over k c m in (counted (cell_passes i) i).stop years_within_lem

  -- the finding from the row i, the years t and the cumulative x after them
  pub cell_is : (i t x : ℕ) → i ≡ first_row_over k c m → t ≡ years_within k c m i → x ≡ completed k c m i (years_within k c m i)
      → found cell i (k - i + t + 1) (pos x) (pos (get_or m (k - i + t) 0)) (pos (x * get_or m (k - i + t) 0 / million)) ≡ cell_finding k c m
  unfolding cell_finding completed
  cell_is i t x ei et ex = rw (ex, et, ei)
