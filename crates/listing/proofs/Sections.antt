-- The sections of the result list: how many entries each has, how large a sum of theirs is, and the rows of averages one after another.
-- Assumes nothing.
use mathlib.Core.Path.{◌≡◌, refl, ◌∙◌}
use mathlib.Core.List.{List, [], ◌++◌}
use Prim.Native.Nat.{ℕ, zero, suc, ◌+◌, ◌-◌, ◌*◌, ◌^◌, ◌≤◌, ◌<◌}
use native.Mathlib.Nat.{mul-le-mul}
use native.Mathlib.Numerals.{add-one}
use native.Mathlib.Omega.{arith}
use lib.IntN.{ℤ, pos}
use lib.ListN.{length, get_or, take, length-append}
use lib.Seq.{sets, take-suc}
use Rattle.rules.specs.Lists.{total, up_to, joined}
use Rattle.rules.specs.Record.{cells}
use Rattle.rules.specs.Triangle.{row_start, cell_of}
use Rattle.rules.specs.Completion.{most_ultimate}
use Rattle.laws.proofs.Lists.{length_up_to, total_most}
use Rattle.laws.proofs.TriangleRows.{cells_twice, rows_all}
use Rattle.laws.proofs.Joined.{sets_append, joined_more, past_length}
use Rattle.listing.specs.Starts.{average_row_of, Addable}

-- the sum of at most sixteen small numbers stands in a signed list
pub small_total : (xs : List ℕ) → Addable xs → (n : ℕ) → n ≤ 16 → total (take n xs) < 2 ^ 63
small_total xs h n l = omega (arith, total_most most_ultimate xs h n)

-- the first n entries of a list, one by one
pub take_up_to : {A : Type 0} (xs : List A) (d : A) (n : ℕ) → n ≤ length xs → take n xs ≡ up_to (λ j. get_or xs j d) n
unfolding up_to
take_up_to xs d zero h = refl
take_up_to xs d (suc n) h = rw (take-suc xs n d (omega arith), take_up_to xs d n (omega arith))

-- with k up to 15 a triangle has at most 120 cells after its first row
pub future_cells_most : (k : ℕ) → k < 16 → cells k - (k + 1) ≤ 120
future_cells_most k h =
    let m : k * (k + 1) ≤ 15 * 16 = mul-le-mul {n₂ = 15} {m₂ = 16} (omega arith) (omega arith) in
    omega (arith, cells_twice k)

-- three runs of stores, one after another
pub three_runs : (a b d l : List ℤ) (at : ℕ) {p q : ℕ} → p ≡ at + length a → q ≡ p + length b → sets (sets (sets l at a) p b) q d ≡ sets l at (a ++ (b ++ d))
three_runs a b d l at {p} {q} i j = sets_append b d (sets l at a) p q j ∙ sets_append a (b ++ d) l at p i

-- and how many they are, by where the last one ends
pub three_length : (a b d : List ℤ) (at : ℕ) {p q r : ℕ} → p ≡ at + length a → q ≡ p + length b → r ≡ q + length d → r ≡ at + length (a ++ (b ++ d))
three_length a b d at i j h = omega (arith, length-append a (b ++ d), length-append b d)

module _ (k : ℕ) (s : List (List ℤ)) where
  -- as the code reads them
  row_is : (i : ℕ) → k + 1 - i ≤ length (get_or s i []) → take (k + 1 - i) (get_or s i []) ≡ average_row_of k s i
  unfolding cell_of
  row_is i h = take_up_to (get_or s i []) (pos 0) (k + 1 - i) h

  -- the rows before row i
  rows_length : (i : ℕ) → length (joined (up_to (average_row_of k s) i)) ≡ row_start k i
  rows_length = past_length (average_row_of k s) k (λ i. length_up_to (cell_of s i) (k + 1 - i))

  -- the stores of row i
  pub rows_more : (l : List ℤ) (i at : ℕ) → at ≡ row_start k i → k + 1 - i ≤ length (get_or s i [])
      → sets (sets l 0 (joined (up_to (average_row_of k s) i))) at (take (k + 1 - i) (get_or s i [])) ≡ sets l 0 (joined (up_to (average_row_of k s) (i + 1)))
  rows_more l i at e h =
      rw (row_is i h, add-one i, joined_more (average_row_of k s) i)
      (sets_append (joined (up_to (average_row_of k s) i)) (average_row_of k s i) l 0 at (omega (arith, rows_length i)))

  -- the averages are as many as the triangle has cells
  pub averages_length : length (joined (up_to (average_row_of k s) (k + 1))) ≡ cells k
  averages_length = rows_length (k + 1) ∙ rows_all k
