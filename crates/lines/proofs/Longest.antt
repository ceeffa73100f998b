-- How long a line of a text is at most: as long as its longest line, and that at most as long as the text. Assumes nothing.
use mathlib.Core.Bool.{Bool, true, false, not, cond}
use mathlib.Core.List.{List, [], ◌∷◌}
use Prim.Native.Nat.{ℕ, zero, suc, ◌+◌, ◌≤◌, max}
use native.Mathlib.Omega.{arith}
use lib.Dec.{eqb}
use lib.ListN.{length}
use Rattle.entries.specs.Leading.{passing}
use Rattle.lines.specs.Lines.{in_line, first_line, from_line, line_of}

-- the longest line, where n bytes of the first were passed already
unfoldable pub longest_from : ℕ → List ℕ → ℕ
longest_from n [] = n
longest_from n (b ∷ text) = cond (eqb b 10) (max n (longest_from 0 text)) (longest_from (suc n) text)

abbrev pub longest_line : List ℕ → ℕ
longest_line text = longest_from 0 text

-- the first line is among them
first_most : (n : ℕ) (text : List ℕ) → length (passing in_line text) + n ≤ longest_from n text
unfolding passing longest_from
first_most n [] = omega arith
first_most n (b ∷ text) = go (eqb b 10) (first_most (suc n) text)
  where
    go : (e : Bool) → length (passing in_line text) + suc n ≤ longest_from (suc n) text
        → length (cond (not e) (b ∷ passing in_line text) []) + n ≤ cond e (max n (longest_from 0 text)) (longest_from (suc n) text)
    go true h = omega arith
    go false h = omega (arith, h)

-- and so is every other
from_most : (m n : ℕ) (other text : List ℕ) (b : ℕ) → length (first_line other) ≤ b → longest_from m text ≤ b → length (first_line (from_line n other text)) ≤ b
unfolding from_line first_line longest_from
from_most m n other [] b h k = h
from_most m zero other (x ∷ text) b h k = omega (arith, k, first_most m (x ∷ text))
from_most m (suc n) other (x ∷ text) b h k =
    go (eqb x 10) k (λ (l : longest_from 0 text ≤ b). from_most 0 n other text b h l) (λ (l : longest_from (suc m) text ≤ b). from_most (suc m) (suc n) other text b h l)
  where
    go : (e : Bool) → cond e (max m (longest_from 0 text)) (longest_from (suc m) text) ≤ b
        → (longest_from 0 text ≤ b → length (passing in_line (from_line n other text)) ≤ b)
        → (longest_from (suc m) text ≤ b → length (passing in_line (from_line (suc n) other text)) ≤ b)
        → length (passing in_line (from_line (cond e n (suc n)) other text)) ≤ b
    go true k next same = next (omega arith)
    go false k next same = same k

pub line_longest : (n : ℕ) (text : List ℕ) → length (line_of n text) ≤ longest_line text
unfolding line_of first_line
line_longest n text = from_most 0 n text text (longest_line text) (omega (arith, first_most 0 text)) (omega arith)

-- a line is no longer than the text
pub longest_most : (n : ℕ) (text : List ℕ) → longest_from n text ≤ n + length text
unfolding longest_from
longest_most n [] = omega arith
longest_most n (b ∷ text) = go (eqb b 10) (longest_most 0 text) (longest_most (suc n) text)
  where
    go : (e : Bool) → longest_from 0 text ≤ 0 + length text → longest_from (suc n) text ≤ suc n + length text
        → cond e (max n (longest_from 0 text)) (longest_from (suc n) text) ≤ n + length (b ∷ text)
    go true h k = omega (arith, h)
    go false h k = omega (arith, k)

pub line_most : (n : ℕ) (text : List ℕ) → length (line_of n text) ≤ length text
line_most n text = omega (arith, line_longest n text, longest_most 0 text)
