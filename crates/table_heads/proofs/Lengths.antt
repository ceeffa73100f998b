-- How long heads and labels are at most: a number, or the longest line of the words or the labels. Assumes nothing.
use mathlib.Core.Bool.{Bool, true, false, cond}
use mathlib.Core.List.{List}
use Prim.Native.Nat.{ℕ, ◌+◌, ◌-◌, ◌≤◌, max}
use native.Mathlib.Omega.{arith}
use lib.Dec.{eqb, ltb}
use lib.ListN.{length}
use Rattle.composing.specs.Text.{decimal}
use Rattle.composing.proofs.Decimals.{length_most}
use Rattle.lines.specs.Lines.{line_of}
use Rattle.lines.proofs.Longest.{longest_line, line_longest, line_most}
use Rattle.table_heads.specs.Heads.{head, label}
use Rattle.table_heads.specs.declared.Shape.{Shape}

-- the head of a column
pub head_most_lem : (words : List ℕ) (shape : Shape) (j : ℕ) → length (head words shape j) ≤ max 20 (longest_line words)
unfolding head
head_most_lem words shape j = go (ltb j shape.years)
  where
    go : (b : Bool) → length (cond b (decimal j) (line_of (2 + (j - shape.years)) words)) ≤ max 20 (longest_line words)
    go true = omega (arith, length_most j)
    go false = omega (arith, line_longest (2 + (j - shape.years)) words)

pub head_room : (words : List ℕ) (shape : Shape) (j : ℕ) → length (head words shape j) ≤ 20 + length words
unfolding head
head_room words shape j = go (ltb j shape.years)
  where
    go : (b : Bool) → length (cond b (decimal j) (line_of (2 + (j - shape.years)) words)) ≤ 20 + length words
    go true = omega (arith, length_most j)
    go false = omega (arith, line_most (2 + (j - shape.years)) words)

-- the label of a row, the total's too
pub label_most_lem : (labels total : List ℕ) (shape : Shape) (i : ℕ) → length (label labels total shape i) ≤ max 20 (longest_line labels) + length total
unfolding label
label_most_lem labels total shape i = go (ltb i shape.rows) (eqb (length labels) 0)
  where
    go : (a b : Bool) → length (cond a (cond b (decimal (shape.from + i)) (line_of i labels)) total) ≤ max 20 (longest_line labels) + length total
    go true true = omega (arith, length_most (shape.from + i))
    go true false = omega (arith, line_longest i labels)
    go false b = omega arith
