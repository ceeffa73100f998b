-- What bounds the parts of a table, by its words and labels alone. Assumes nothing.
use mathlib.Core.List.{List}
use Prim.Native.Nat.{ℕ, ◌+◌, ◌*◌, ◌≤◌, max}
use native.Mathlib.Omega.{arith}
use lib.ListN.{length}
use Rattle.lines.specs.Lines.{line_of}
use Rattle.lines.proofs.Longest.{longest_line, line_longest}

-- the most of a head: a number's digits, or the longest line of the words
abbrev pub head_most : List ℕ → ℕ
head_most words = max 20 (longest_line words)

-- of a label, the total's too
abbrev pub label_most : List ℕ → List ℕ → ℕ
label_most labels total = max 20 (longest_line labels) + length total

-- of a cell: of its bytes in HTML, or of its places as text, where a column is two wider than its head
abbrev pub cell_most : List ℕ → ℕ
cell_most words = max 95 (2 + longest_line words)

-- of a row of so many columns
abbrev pub row_most : List ℕ → List ℕ → List ℕ → ℕ → ℕ
row_most words labels total columns = 31 + head_most words + label_most labels total + cell_most words * columns

-- of a table of so many rows, the total among them
unfoldable pub table_most : List ℕ → List ℕ → List ℕ → ℕ → ℕ → ℕ
table_most words labels total rows columns =
    200 + 2 * head_most words + label_most labels total + (21 + head_most words) * columns + row_most words labels total columns * rows

-- a line of the words is within the most of a head
pub line_head : (n : ℕ) (words : List ℕ) → length (line_of n words) ≤ head_most words
line_head n words = omega (arith, line_longest n words)
