-- Lines of a table as text: cells up to the last that is not blank, text at the left, and widths that stand in an array. Assumes nothing.
use mathlib.Core.Path.{◌≡◌, sym, ap, ◌∙◌}
use mathlib.Core.List.{List, ◌++◌}
use Prim.Native.Nat.{ℕ, ◌+◌, ◌-◌, ◌*◌, ◌<◌}
use native.Mathlib.Omega.{arith}
use lib.IntN.{ℤ}
use lib.ListN.{length, get_or}
use Rattle.rules.specs.Lists.{up_to, joined, padded}
use Rattle.laws.proofs.Lists.{up_to_ext, get_d_up_to}
use Rattle.laws.proofs.Padded.{filled_at}
use Rattle.composing.specs.Text.{Put, ascii, spaces, right}
use Rattle.composing.proofs.Puts.{put_append}
use Rattle.table_cells.specs.Cells.{text_cell_at}
use Rattle.table_heads.specs.Heads.{head, label}
use Rattle.table_heads.specs.declared.Shape.{Shape}
use Rattle.text_cells.specs.Cells.{filled, text_cells}
use Rattle.text_cells.proofs.Filled.{filled_most}
use Rattle.text_table.specs.Plain.{left, column_heads, head_line, row_line}

-- a text and the spaces that are left
pub put_at_left : {a b c : List ℕ} {i j k n : ℕ} (w : ℕ) (xs : List ℕ) → n ≡ w - length xs → Put a b i j xs → Put b c j k (spaces n)
    → Put a c i k (left w xs)
unfolding left
put_at_left w xs e p q = put_append p (rw e at q)

-- the widths in an array are those that were put into it
pub stored_width : (f : ℕ → ℕ) (n j : ℕ) → j < n → get_or (padded 20 0 (up_to f n)) j 0 ≡ get_or (up_to f n) j 0
stored_width f n j h = filled_at 20 0 f n j 0 h ∙ sym (get_d_up_to f n j 0 h)

-- lines are the same where the widths of their columns are
cells_same : (vs ws : List ℕ) (values : List ℤ) (styles : List ℕ) (p n : ℕ) → ((j : ℕ) → j < n → get_or vs j 0 ≡ get_or ws j 0)
    → text_cells vs values styles p n ≡ text_cells ws values styles p n
unfolding text_cells
cells_same vs ws values styles p n same =
    ap joined
    (up_to_ext (λ j. right (get_or vs j 0) (text_cell_at values styles (p + j))) (λ j. right (get_or ws j 0) (text_cell_at values styles (p + j))) n (λ j h. ap (λ (w : ℕ). right w (text_cell_at values styles (p + j))) (same j h)))

pub head_line_same : (vs ws words : List ℕ) (shape : Shape) (places : ℕ) → ((j : ℕ) → j < shape.columns → get_or vs j 0 ≡ get_or ws j 0)
    → head_line words shape places vs ≡ head_line words shape places ws
unfolding head_line column_heads
head_line_same vs ws words shape places same =
    let heads = up_to_ext (λ j. right (get_or vs j 0) (head words shape j)) (λ j. right (get_or ws j 0) (head words shape j)) shape.columns (λ j h. ap (λ (w : ℕ). right w (head words shape j)) (same j h)) in
    rw heads

pub row_lines_same : (vs ws labels total : List ℕ) (shape : Shape) (values : List ℤ) (styles : List ℕ) (places n : ℕ)
    → ((j : ℕ) → j < shape.columns → get_or vs j 0 ≡ get_or ws j 0)
    → joined (up_to (row_line labels total shape values styles places vs) n) ≡ joined (up_to (row_line labels total shape values styles places ws) n)
unfolding row_line
row_lines_same vs ws labels total shape values styles places n same =
    ap joined (up_to_ext (row_line labels total shape values styles places vs) (row_line labels total shape values styles places ws) n (λ i h. row i))
  where
    row : (i : ℕ) → row_line labels total shape values styles places vs i ≡ row_line labels total shape values styles places ws i
    row i =
        let p = i * shape.columns in
        let m = filled styles p shape.columns in
        ap (λ (l : List ℕ). left places (label labels total shape i) ++ (l ++ ascii "\n"))
        (cells_same vs ws values styles p m (λ j h. same j (omega (arith, h, filled_most styles p shape.columns))))
