-- What a run of stores leaves as it was, the sum of a column of which only the body's sizes are known, and the totals of an array. Assumes nothing.
use mathlib.Core.Path.{◌≡◌, refl, sym, ◌∙◌}
use mathlib.Core.List.{List, [], ◌∷◌}
use Prim.Native.Nat.{ℕ, zero, suc, ◌+◌, ◌*◌, ◌≤◌, ◌<◌}
use native.Mathlib.Decide.{dec_lt, ℕ_discrete}
use native.Mathlib.Nat.{not-suc-le-zero}
use native.Mathlib.Numerals.{add-one}
use native.Mathlib.Omega.{arith}
use lib.IntN.{ℤ, pos, nat_abs}
use lib.ListN.{length, length-take, get_or, set, take, get_or-eq_default}
use lib.Seq.{sets, length-sets, get_or-take, get_or-set_same, get_or-set_other}
use Rattle.rules.specs.Lists.{up_to}
use Rattle.rules.specs.Triangle.{sum_to}
use Rattle.laws.proofs.Joined.{sets_more}
use Rattle.laws.proofs.Sums.{sum_to_same}
use Rattle.table_cells.proofs.Cells.{place_room}
use Rattle.totals_row.specs.Totals.{most_value, column_sum, total_value}

-- an entry before the stores
pub before_kept : {A : Type 0} (xs l : List A) (i q : ℕ) (d : A) → q < i → get_or (sets l i xs) q d ≡ get_or l q d
before_kept [] l i q d h = refl
before_kept (x ∷ xs) l i q d h =
    before_kept xs (set l i x) (suc i) q d (omega arith) ∙ get_or-set_other l i q x d (λ e. absurd (omega arith))

-- an entry after them
pub after_kept : {A : Type 0} (xs l : List A) (i q : ℕ) (d : A) → i + length xs ≤ q → get_or (sets l i xs) q d ≡ get_or l q d
after_kept [] l i q d h = refl
after_kept (x ∷ xs) l i q d h =
    after_kept xs (set l i x) (suc i) q d (omega arith) ∙ get_or-set_other l i q x d (λ e. absurd (omega arith))

-- the term of row i, read from the body alone, so that its size is known in every row
abbrev pub term : List ℤ → ℕ → ℕ → ℕ → ℕ → ℤ
term values columns rows j i = get_or (take (rows * columns) values) (i * columns + j) (pos 0)

pub term_is : (values : List ℤ) (columns rows j i : ℕ) → j < columns → i < rows → term values columns rows j i ≡ get_or values (i * columns + j) (pos 0)
term_is values columns rows j i h l = get_or-take (rows * columns) values (i * columns + j) (pos 0) (place_room i j rows columns l h)

body_small : (values : List ℤ) (n b p : ℕ) → ((q : ℕ) → q < n → nat_abs (get_or values q (pos 0)) ≤ b) → nat_abs (get_or (take n values) p (pos 0)) ≤ b
body_small values n b p h = go (dec_lt p n)
  where
    go : Dec (p < n) → nat_abs (get_or (take n values) p (pos 0)) ≤ b
    go (yes l) = rw (get_or-take n values p (pos 0) l) (h p l)
    go (no l) =
        let past : get_or (take n values) p (pos 0) ≡ pos 0 = get_or-eq_default (take n values) (pos 0) (omega (arith, length-take n values)) in
        rw past (omega arith)

pub term_small : (values : List ℤ) (columns rows j : ℕ) → ((p : ℕ) → p < rows * columns → nat_abs (get_or values p (pos 0)) ≤ most_value)
    → (i : ℕ) → nat_abs (term values columns rows j i) ≤ most_value
term_small values columns rows j h i = body_small values (rows * columns) most_value (i * columns + j) h

pub term_sum : (values : List ℤ) (columns rows j : ℕ) → j < columns → sum_to (term values columns rows j) rows ≡ column_sum values columns rows j
unfolding column_sum
term_sum values columns rows j h =
    sum_to_same (term values columns rows j) (λ i. get_or values (i * columns + j) (pos 0)) rows (λ i l. term_is values columns rows j i h l)

-- the totals are those of the body alone
pub value_same : (vs ws : List ℤ) (columns rows first end j : ℕ) → j < columns
    → ((p : ℕ) → p < rows * columns → get_or vs p (pos 0) ≡ get_or ws p (pos 0)) → total_value vs columns rows first end j ≡ total_value ws columns rows first end j
unfolding total_value column_sum
value_same vs ws columns rows first end j h same =
    let sums = sum_to_same (λ i. get_or vs (i * columns + j) (pos 0)) (λ i. get_or ws (i * columns + j) (pos 0)) rows (λ i l. same (i * columns + j) (place_room i j rows columns l h)) in
    rw sums

-- an entry that was stored
pub stored_at : {A : Type 0} (f : ℕ → A) (l : List A) (i n j : ℕ) (d : A) → j < n → i + n ≤ length l → get_or (sets l i (up_to f n)) (i + j) d ≡ f j
stored_at f l i zero j d h room = absurd (not-suc-le-zero h)
stored_at f l i (suc n) j d h room =
    rw (sym (add-one n), sym (sets_more f l i n)) (go (λ (m : j < n). stored_at f l i n j d m (omega arith)) (ℕ_discrete j n))
  where
    go : (j < n → get_or (sets l i (up_to f n)) (i + j) d ≡ f j) → Dec (j ≡ n) → get_or (set (sets l i (up_to f n)) (i + n) (f n)) (i + j) d ≡ f j
    go before (yes e) = rw e (get_or-set_same (sets l i (up_to f n)) (i + n) (f n) d (omega (arith, length-sets l i (up_to f n))))
    go before (no e) =
        get_or-set_other (sets l i (up_to f n)) (i + n) (i + j) (f n) d (λ q. e (omega (arith, q))) ∙ before (omega arith)
