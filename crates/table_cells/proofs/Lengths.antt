-- How long a cell is at most, whatever its style and its number. Assumes nothing.
use mathlib.Core.Path.{◌≡◌, refl}
use mathlib.Core.Bool.{Bool, true, false, cond}
use mathlib.Core.List.{List, [], ◌∷◌, ◌++◌}
use Prim.Native.Nat.{ℕ, zero, suc, ◌+◌, ◌*◌, ◌^◌, ◌≤◌, ◌<◌}
use native.Mathlib.Omega.{arith}
use borrow.Author.Tests.{leb-true}
use lib.Dec.{eqb, ltb, leb}
use lib.IntN.{ℤ, nat_abs}
use lib.ListN.{length, length-append, get_or}
use Rattle.rules.specs.Lists.{every}
use Rattle.laws.proofs.Lists.{both_left, both_right}
use Rattle.composing.specs.Text.{ascii, fixed}
use Rattle.numerals.specs.Numerals.{number}
use Rattle.numerals.proofs.Lengths.{fixed_most, number_most, number_size}
use Rattle.table_cells.specs.Cells.{decimals_of, mark_of, class_names, class_name, cell_start, percent_sign, web_number, web_cell, text_cell, column_places}
use Rattle.table_cells.proofs.Cells.{largest_most}

decimals_most : (style : ℕ) → decimals_of style < 10
unfolding decimals_of
decimals_most style = omega arith

each_most : (n : ℕ) (xss : List (List ℕ)) → every (λ l. leb (length l) n) xss ≡ true → (m : ℕ) → length (get_or xss m []) ≤ n
unfolding every
each_most n [] h m = omega arith
each_most n (xs ∷ xss) h zero = leb-true (length xs) n (both_left (leb (length xs) n) (every (λ l. leb (length l) n) xss) h)
each_most n (xs ∷ xss) h (suc m) = each_most n xss (both_right (leb (length xs) n) (every (λ l. leb (length l) n) xss) h) m

class_most : (mark : ℕ) → length (class_name mark) ≤ 2
unfolding class_name class_names every
class_most mark = each_most 2 class_names refl mark

start_most : (mark : ℕ) → length (cell_start mark) ≤ 15
unfolding cell_start
start_most mark = go (ltb mark 3)
  where
    go : (b : Bool) → length (cond b (ascii "<td>") (ascii "<td class=\"" ++ (class_name mark ++ ascii "\">"))) ≤ 15
    go true = omega arith
    go false = omega (arith, class_most mark, length-append (class_name mark) (ascii "\">"))

percent_most : (mark : ℕ) → length (percent_sign mark) ≤ 1
unfolding percent_sign
percent_most mark = go (eqb mark 1)
  where
    go : (b : Bool) → length (cond b (ascii "%") []) ≤ 1
    go true = omega arith
    go false = omega arith

-- a number in HTML, where b bounds it without a percent sign
web_number_by : (b mark d : ℕ) (z : ℤ) → length (fixed d z) ≤ b → length (number d z) ≤ b → length (web_number mark d z) ≤ b + 1
unfolding web_number
web_number_by b mark d z h k = go (eqb mark 2)
  where
    go : (e : Bool) → length (cond e (fixed d z) (number d z ++ percent_sign mark)) ≤ b + 1
    go true = omega (arith, h)
    go false = omega (arith, k, percent_most mark, length-append (number d z) (percent_sign mark))

-- and a cell in HTML
web_cell_by : (b style : ℕ) (z : ℤ) → length (fixed (decimals_of style) z) ≤ b → length (number (decimals_of style) z) ≤ b → length (web_cell style z) ≤ 21 + b
unfolding web_cell
web_cell_by b style z h k = go (eqb style 0)
  where
    go : (e : Bool) → length (cond e (ascii "<td></td>") (cell_start (mark_of style) ++ (web_number (mark_of style) (decimals_of style) z ++ ascii "</td>"))) ≤ 21 + b
    go true = omega arith
    go false =
        let first = cell_start (mark_of style) in
        let second = web_number (mark_of style) (decimals_of style) z in
        omega
        (arith, start_most (mark_of style), web_number_by b (mark_of style) (decimals_of style) z h k, length-append first (second ++ ascii "</td>"), length-append second (ascii "</td>"))

-- whatever the number
pub web_cell_most : (style : ℕ) (z : ℤ) → length (web_cell style z) ≤ 95
web_cell_most style z =
    let d = decimals_of style in
    omega
    (arith, web_cell_by 74 style z (omega (arith, fixed_most d z, decimals_most style)) (omega (arith, number_most d z, decimals_most style)))

-- and where it has at most m groups after the first
pub web_cell_size : (m style : ℕ) (z : ℤ) → m ≤ 6 → 2 ≤ m → nat_abs z < 1000 ^ suc m → length (web_cell style z) ≤ 35 + 10 * m
web_cell_size m style z few some h =
    let d = decimals_of style in
    omega
    (arith, web_cell_by (14 + 10 * m) style z (omega (arith, fixed_most d z, decimals_most style)) (omega (arith, number_size m d z few h, decimals_most style)))

-- a cell as text
pub text_cell_most : (style : ℕ) (z : ℤ) → length (text_cell style z) ≤ 32
unfolding text_cell
text_cell_most style z = go (eqb style 0)
  where
    go : (b : Bool) → length (cond b [] (fixed (decimals_of style) z ++ percent_sign (mark_of style))) ≤ 32
    go true = omega arith
    go false =
        omega
        (arith, fixed_most (decimals_of style) z, percent_most (mark_of style), decimals_most style, length-append (fixed (decimals_of style) z) (percent_sign (mark_of style)))

-- the widest cell of a column
pub column_most : (values : List ℤ) (styles : List ℕ) (columns n j : ℕ) → column_places values styles columns n j ≤ 32
unfolding column_places
column_most values styles columns n j = largest_most _ 32 n (λ i l. text_cell_most _ _)
