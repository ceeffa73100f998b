-- The totals of the cells that a pass by row has passed so far: of no cell, of one cell more, at a row's end and at the last; and how large they are.
-- Assumes nothing.
use mathlib.Core.Path.{◌≡◌, refl, sym, ◌∙◌, ap, ap₂}
use mathlib.Core.Bool.{Bool, true, false, ◌&&◌, ◌||◌, cond}
use mathlib.Core.List.{List, []}
use Prim.Native.Nat.{ℕ, ◌+◌, ◌-◌, ◌≤◌, ◌<◌, zero-le}
use native.Mathlib.Decide.{dec_lt, ℕ_discrete}
use native.Mathlib.Omega.{arith}
use lib.Dec.{eqb, ltb}
use lib.IntN.{ℤ, pos, nat_abs, ◌+ℤ◌, +ℤ_comm, +ℤ_idr}
use lib.ListN.{get_or, set, replicate}
use borrow.Author.Tests.{lt-ltb, le-ltb, eq-eqb, ne_eqb}
use Rattle.rules.specs.Lists.{up_to}
use Rattle.rules.specs.Triangle.{cell_of, sum_to, cells_total, ZeroOutside, column_total, diagonal_total, TotalsIn, so_far, TotalsSoFar}
use Rattle.laws.proofs.Lists.{get_d_up_to, up_to_ext, set_up_to}
use Rattle.laws.proofs.Joined.{up_to_all}
use Rattle.laws.proofs.Sums.{sum_to_same, sum_to_zero, sum_to_one, passed, zero_term, passed_eq, left_out_eq}
use Rattle.totals.specs.CellSizes.{Cells, most_total, TotalsSmall}
use Rattle.totals.proofs.Cells.{cells_same, cells_zero, cells_pairs, cells_size}

-- whether a cell is passed: in a row before i, in row i, in a row after it
abbrev is_passed : ℕ → ℕ → ℕ → ℕ → Bool
is_passed i n r c = ltb r i || (eqb r i && ltb c n)

earlier : (i n r c : ℕ) → r < i → is_passed i n r c ≡ true
earlier i n r c h = rw (lt-ltb r i h) refl

own : (i n r c : ℕ) → r ≡ i → is_passed i n r c ≡ ltb c n
own i n r c e = rw (le-ltb r i (omega arith), eq-eqb r i e) refl

later : (i n r c : ℕ) → i < r → is_passed i n r c ≡ false
later i n r c h = rw (le-ltb r i (omega arith), ne_eqb r i (λ e. omega arith)) refl

-- a cell under two tests, and a sum under one
both_tests : (a b : Bool) (z : ℤ) → cond (a && b) z (pos 0) ≡ cond a (cond b z (pos 0)) (pos 0)
both_tests true b z = refl
both_tests false b z = refl

sum_under : (b : Bool) (f : ℕ → ℤ) (n : ℕ) → sum_to (λ c. cond b (f c) (pos 0)) n ≡ cond b (sum_to f n) (pos 0)
sum_under true f n = refl
sum_under false f n = sum_to_zero _ n (λ i l. refl)

module _ (s : List (List ℤ)) where
  -- a cell of the square so far
  cell_so_far : (i n r c : ℕ) → r < 16 → c < 16 → cell_of (so_far s i n) r c ≡ cond (is_passed i n r c) (cell_of s r c) (pos 0)
  unfolding so_far cell_of
  cell_so_far i n r c h l =
      rw (get_d_up_to (λ r. up_to (λ c. cond (is_passed i n r c) (cell_of s r c) (pos 0)) 16) 16 r [] h)
      (get_d_up_to (λ c. cond (is_passed i n r c) (cell_of s r c) (pos 0)) 16 c (pos 0) l)

  -- a total of it is the total of the passed cells of the square
  so_far_total : (p : ℕ → ℕ → Bool) (i n : ℕ) → cells_total p (so_far s i n) ≡ cells_total (λ r c. p r c && is_passed i n r c) s
  unfolding cells_total
  so_far_total p i n =
      sum_to_same _ _ 16 (λ r h. sum_to_same _ _ 16 (λ c l.
      ap (λ (z : ℤ). cond (p r c) z (pos 0)) (cell_so_far i n r c h l) ∙ sym (both_tests (p r c) (is_passed i n r c) (cell_of s r c))))

  -- the total of one cell
  one_cell : (p : ℕ → ℕ → Bool) (i j : ℕ) → i < 16 → j < 16 → cells_total (λ r c. eqb r i && (eqb c j && p r c)) s ≡ cond (p i j) (cell_of s i j) (pos 0)
  unfolding cells_total
  one_cell p i j h l =
      sum_to_same _ _ 16 (λ r m.
      sum_to_same _ (λ c. cond (eqb r i) (cond (eqb c j) (cond (p r c) (cell_of s r c) (pos 0)) (pos 0)) (pos 0)) 16 (λ c n.
      both_tests (eqb r i) (eqb c j && p r c) (cell_of s r c) ∙ ap (λ (z : ℤ). cond (eqb r i) z (pos 0)) (both_tests (eqb c j) (p r c) (cell_of s r c)))
      ∙ sum_under (eqb r i) (λ c. cond (eqb c j) (cond (p r c) (cell_of s r c) (pos 0)) (pos 0)) 16
      ∙ ap (λ (z : ℤ). cond (eqb r i) z (pos 0)) (sum_to_one (λ c. cond (p r c) (cell_of s r c) (pos 0)) j 16 l))
      ∙ sum_to_one (λ r. cond (p r j) (cell_of s r j) (pos 0)) i 16 h

  -- one cell more
  one_more : (p : ℕ → ℕ → Bool) (i j : ℕ) → i < 16 → j < 16
      → cells_total p (so_far s i (j + 1)) ≡ cells_total p (so_far s i j) +ℤ cond (p i j) (cell_of s i j) (pos 0)
  one_more p i j h l =
      so_far_total p i (j + 1)
      ∙ sym (+ℤ_idr _)
      ∙ ap (λ (z : ℤ). cells_total (λ r c. p r c && is_passed i (j + 1) r c) s +ℤ z) (sym (cells_zero s (λ r c. false) (λ r c. refl)))
      ∙ cells_pairs s (λ r c. p r c && is_passed i (j + 1) r c) (λ r c. false) (λ r c. p r c && is_passed i j r c) (λ r c. eqb r i && (eqb c j && p r c))
      (λ r c. go r c (dec_lt r i) (ℕ_discrete r i) (dec_lt c j) (ℕ_discrete c j))
      ∙ ap₂ (λ (x y : ℤ). x +ℤ y) (sym (so_far_total p i j)) (one_cell p i j h l)
    where
      -- the cell itself, and a cell of which nothing changes
      same : (r c : ℕ) (t : Bool) → is_passed i (j + 1) r c ≡ t → is_passed i j r c ≡ t → eqb r i && (eqb c j && p r c) ≡ false
          → cond (p r c && is_passed i (j + 1) r c) (cell_of s r c) (pos 0) +ℤ pos 0
          ≡ cond (p r c && is_passed i j r c) (cell_of s r c) (pos 0) +ℤ cond (eqb r i && (eqb c j && p r c)) (cell_of s r c) (pos 0)
      same r c t a b e = rw (a, b, e) refl

      go : (r c : ℕ) → Dec (r < i) → Dec (r ≡ i) → Dec (c < j) → Dec (c ≡ j)
          → cond (p r c && is_passed i (j + 1) r c) (cell_of s r c) (pos 0) +ℤ pos 0
          ≡ cond (p r c && is_passed i j r c) (cell_of s r c) (pos 0) +ℤ cond (eqb r i && (eqb c j && p r c)) (cell_of s r c) (pos 0)
      go r c (yes a) e b f = same r c true (earlier i (j + 1) r c a) (earlier i j r c a) (rw (ne_eqb r i (λ q. omega arith)) refl)
      go r c (no a) (no e) b f = same r c false (later i (j + 1) r c (omega (arith, e))) (later i j r c (omega (arith, e))) (rw (ne_eqb r i e) refl)
      go r c (no a) (yes e) (yes b) f =
          same r c true (own i (j + 1) r c e ∙ lt-ltb c (j + 1) (omega arith)) (own i j r c e ∙ lt-ltb c j b) (rw (eq-eqb r i e, ne_eqb c j (λ q. omega arith)) refl)
      go r c (no a) (yes e) (no b) (no f) =
          same r c false (own i (j + 1) r c e ∙ le-ltb c (j + 1) (omega (arith, f))) (own i j r c e ∙ le-ltb c j (omega arith)) (rw (eq-eqb r i e, ne_eqb c j f) refl)
      go r c (no a) (yes e) (no b) (yes f) =
          let now : is_passed i (j + 1) r c ≡ true = own i (j + 1) r c e ∙ lt-ltb c (j + 1) (omega arith) in
          let was : is_passed i j r c ≡ false = own i j r c e ∙ le-ltb c j (omega arith) in
          rw (now, was, eq-eqb r i e, eq-eqb c j f) (last (p r c) (cell_of s r c))
        where
          last : (b : Bool) (z : ℤ) → cond (b && true) z (pos 0) +ℤ pos 0 ≡ cond (b && false) z (pos 0) +ℤ cond b z (pos 0)
          last true z = +ℤ_comm z (pos 0)
          last false z = refl

  -- before the first cell
  no_cells : (p : ℕ → ℕ → Bool) → cells_total p (so_far s 0 0) ≡ pos 0
  no_cells p = so_far_total p 0 0 ∙ cells_zero s _ (λ r c. both_tests (p r c) (is_passed 0 0 r c) (cell_of s r c) ∙ rw (none r c (ℕ_discrete r 0)) (zero_term (p r c)))
    where
      none : (r c : ℕ) → Dec (r ≡ 0) → is_passed 0 0 r c ≡ false
      none r c (yes e) = own 0 0 r c e ∙ le-ltb c 0 (omega arith)
      none r c (no e) = later 0 0 r c (omega (arith, e))

  module _ (k : ℕ) (out : ZeroOutside s k) where
    -- past the last cell of a row
    pub row_end : (i : ℕ) → so_far s i (k + 1 - i) ≡ so_far s (i + 1) 0
    unfolding so_far
    row_end i = up_to_ext _ _ 16 (λ r h. up_to_ext _ _ 16 (λ c l. go r c (dec_lt r i) (ℕ_discrete r i) (dec_lt c (k + 1 - i)) (ℕ_discrete r (i + 1))))
      where
        same : (r c : ℕ) (t : Bool) → is_passed i (k + 1 - i) r c ≡ t → is_passed (i + 1) 0 r c ≡ t
            → cond (is_passed i (k + 1 - i) r c) (cell_of s r c) (pos 0) ≡ cond (is_passed (i + 1) 0 r c) (cell_of s r c) (pos 0)
        same r c t a b = rw (a, b) refl

        go : (r c : ℕ) → Dec (r < i) → Dec (r ≡ i) → Dec (c < k + 1 - i) → Dec (r ≡ i + 1)
            → cond (is_passed i (k + 1 - i) r c) (cell_of s r c) (pos 0) ≡ cond (is_passed (i + 1) 0 r c) (cell_of s r c) (pos 0)
        go r c (yes a) e b f = same r c true (earlier i _ r c a) (earlier (i + 1) 0 r c (omega arith))
        go r c (no a) (yes e) (yes b) f = same r c true (own i _ r c e ∙ lt-ltb c _ b) (earlier (i + 1) 0 r c (omega arith))
        go r c (no a) (yes e) (no b) f = rw (out r c (omega arith)) (zero_term (is_passed i (k + 1 - i) r c) ∙ sym (zero_term (is_passed (i + 1) 0 r c)))
        go r c (no a) (no e) b (yes f) = same r c false (later i _ r c (omega (arith, e))) (own (i + 1) 0 r c f ∙ le-ltb c 0 (omega arith))
        go r c (no a) (no e) b (no f) = same r c false (later i _ r c (omega (arith, e))) (later (i + 1) 0 r c (omega (arith, e, f)))

    -- past the last row
    all_cells : (p : ℕ → ℕ → Bool) → cells_total p (so_far s (k + 1) 0) ≡ cells_total p s
    all_cells p = so_far_total p (k + 1) 0 ∙ cells_same s _ p (λ r c. both_tests (p r c) (is_passed (k + 1) 0 r c) (cell_of s r c) ∙ ap (λ (z : ℤ). cond (p r c) z (pos 0)) (go r c (dec_lt r (k + 1))))
      where
        go : (r c : ℕ) → Dec (r < k + 1) → cond (is_passed (k + 1) 0 r c) (cell_of s r c) (pos 0) ≡ cell_of s r c
        go r c (yes a) = passed (cell_of s r c) (earlier (k + 1) 0 r c a)
        go r c (no a) = rw (out r c (omega arith)) (zero_term (is_passed (k + 1) 0 r c))

-- totals by the place that f gives a cell: its column, or its diagonal
abbrev by_place_of : (ℕ → ℕ → ℕ) → List (List ℤ) → ℕ → ℤ
by_place_of f s a = cells_total (λ i j. eqb (f i j) a) s

module _ (f : ℕ → ℕ → ℕ) (s : List (List ℤ)) where
  -- one cell more, in the list of the totals
  pub added : (i j : ℕ) (l : List ℤ) → i < 16 → j < 16 → f i j < 16 → l ≡ up_to (by_place_of f (so_far s i j)) 16
      → set l (f i j) (get_or l (f i j) (pos 0) +ℤ cell_of s i j) ≡ up_to (by_place_of f (so_far s i (j + 1))) 16
  added i j l hi hj hf e =
      let was = get_d_up_to (by_place_of f (so_far s i j)) 16 (f i j) (pos 0) hf in
      let now = one_more s (λ r c. eqb (f r c) (f i j)) i j hi hj ∙ ap (λ (z : ℤ). by_place_of f (so_far s i j) (f i j) +ℤ z) (passed_eq (f i j) (f i j) (cell_of s i j) refl) in
      rw (e, was, ← now)
      (set_up_to (by_place_of f (so_far s i j)) (by_place_of f (so_far s i (j + 1))) 16 (f i j) hf
      (λ a ne. sym (one_more s (λ r c. eqb (f r c) a) i j hi hj ∙ ap (λ (z : ℤ). by_place_of f (so_far s i j) a +ℤ z) (left_out_eq (f i j) a (cell_of s i j) (λ q. ne (sym q))) ∙ +ℤ_idr _)))

  -- no entry of the list is large
  entries_small : Cells s → (i n : ℕ) (l : List ℤ) → l ≡ up_to (by_place_of f (so_far s i n)) 16 → TotalsSmall l
  entries_small cells i n l e =
      rw e (up_to_all (λ z. nat_abs z ≤ most_total) (pos 0) zero-le (by_place_of f (so_far s i n)) 16 (λ a h. rw (so_far_total s (λ r c. eqb (f r c) a) i n) (cells_size s cells _)))

-- neither kind of totals is large
pub totals_small : (s : List (List ℤ)) → Cells s → (i n : ℕ) (v d : List ℤ) → TotalsSoFar s i n v d → TotalsSmall v × TotalsSmall d
unfolding column_total diagonal_total
totals_small s cells i n v d e = (entries_small (λ i j. j) s cells i n v e.0, entries_small (λ i j. i + j) s cells i n d e.1)

-- before the first cell both are zero
zeros : replicate 16 (pos 0) ≡ up_to (λ a. pos 0) 16
unfolding up_to
zeros = refl

pub none_passed : (s : List (List ℤ)) → TotalsSoFar s 0 0 (replicate 16 (pos 0)) (replicate 16 (pos 0))
unfolding column_total diagonal_total
none_passed s = (zeros ∙ up_to_ext _ _ 16 (λ a l. sym (no_cells s _)), zeros ∙ up_to_ext _ _ 16 (λ a l. sym (no_cells s _)))

-- past the last row both are those of the square
pub all_passed : (s : List (List ℤ)) (k : ℕ) (v d : List ℤ) → ZeroOutside s k → TotalsSoFar s (k + 1) 0 v d
    → TotalsIn s v d
unfolding column_total diagonal_total
all_passed s k v d out e = (e.0 ∙ up_to_ext _ _ 16 (λ a l. all_cells s k out _), e.1 ∙ up_to_ext _ _ 16 (λ a l. all_cells s k out _))
