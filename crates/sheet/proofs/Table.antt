-- The labels as the code holds them, and the table place by place. Assumes nothing.
use mathlib.Core.Path.{◌≡◌, refl, sym, ◌∙◌}
use mathlib.Core.Bool.{Bool, false, cond}
use mathlib.Core.List.{List, []}
use Prim.Native.Nat.{ℕ, zero, suc, ◌+◌, ◌-◌, ◌*◌, ◌≤◌, ◌<◌}
use native.Mathlib.Omega.{arith}
use borrow.Author.Tests.{eq-eqb, ne_eqb, lt-ltb, le-ltb}
use lib.Dec.{eqb}
use lib.IntN.{pos, neg_ℤ}
use lib.ListN.{length, get_or, take, replicate}
use lib.Seq.{length-take-le}
use Rattle.rules.specs.Lists.{every, up_to, total}
use Rattle.rules.specs.Record.{cells, million, most_index, most_amount, most_fields}
use Rattle.rules.specs.Triangle.{row_start}
use Rattle.laws.proofs.TriangleRows.{rows_all, cells_most}
use Rattle.laws.proofs.Totals.{total_more, total_part}
use Rattle.composing.specs.Text.{ascii, Put}
use Rattle.composing.proofs.Puts.{put_back, put_length}
use Rattle.scanning.specs.Parts.{among, before, until, from, past, onto, pieces}
use Rattle.separating.specs.Separators.{separators}
use Rattle.cells.specs.Cells.{from_label, after_label, unspaced, trimmed, unquoted, cell_from, filled, used, cells_by, decider, cells_text, cells_of}
use Rattle.sheet.specs.Table.{labels, due, line_count, due_at, due_in, start_in, start_at}

-- the words of the code's text are the labels: by computing
pub labels_are : cells_of (ascii "labels k exposures paid indices reporting weight ulae tail years width") ≡ labels
unfolding labels cells_of decider cells_text cells_by used filled cell_from unquoted trimmed unspaced separators after_label from_label pieces onto past from until before among every
labels_are = refl

-- each has at most nine bytes
label_short : (row : ℕ) → length (get_or labels row []) ≤ 9
unfolding labels
label_short zero = omega arith
label_short (suc zero) = omega arith
label_short (suc (suc zero)) = omega arith
label_short (suc (suc (suc zero))) = omega arith
label_short (suc (suc (suc (suc zero)))) = omega arith
label_short (suc (suc (suc (suc (suc zero))))) = omega arith
label_short (suc (suc (suc (suc (suc (suc zero)))))) = omega arith
label_short (suc (suc (suc (suc (suc (suc (suc zero))))))) = omega arith
label_short (suc (suc (suc (suc (suc (suc (suc (suc zero)))))))) = omega arith
label_short (suc (suc (suc (suc (suc (suc (suc (suc (suc zero))))))))) = omega arith
label_short (suc (suc (suc (suc (suc (suc (suc (suc (suc (suc row)))))))))) = omega arith

-- a label put into nine bytes
module _ (row n : ℕ) (b : List ℕ) (p : Put (replicate 9 0) b 0 n (get_or labels row [])) where
  pub label_cut : n ≡ length (take n b)
  label_cut = sym (length-take-le n b (omega (arith, p.ended, put_length p)))

  pub label_back : take n b ≡ get_or labels row []
  label_back = put_back p (label_short row)

pub start_more : (history : Bool) (n place : ℕ) → start_in history n (suc place) ≡ start_in history n place + (due_in history n place).count
unfolding start_in
start_more history n place = total_more (λ i. (due_in history n i).count) place

pub line_start_more : (k place : ℕ) → start_at k (suc place) ≡ start_at k place + (due_at k place).count
line_start_more k place = start_more false k place

-- the lines of the increments, and those after them
pub due_paid : (k i : ℕ) → i ≤ k → due_at k (suc (suc i)) ≡ due 2 (k + 1 - i) (neg_ℤ (pos most_amount)) (pos most_amount)
unfolding due_at
due_paid k i h =
    let e : k + 3 - suc (suc i) ≡ k + 1 - i = omega arith in
    rw (ne_eqb (suc (suc i)) 0 (λ e. omega arith), ne_eqb (suc (suc i)) 1 (λ e. omega arith), lt-ltb (suc (suc i)) (k + 3) (omega arith), e)

module _ (k place : ℕ) where
  later : k + 3 ≤ place → due_at k place
      ≡ cond (eqb place (k + 3)) (due 3 (k + 1) (pos 1) (pos most_index))
      (cond (eqb place (k + 4)) (due 4 (k + 1) (pos 0) (pos million))
      (cond (eqb place (k + 5)) (due 5 1 (pos 0) (pos million))
      (cond (eqb place (k + 6)) (due 6 (k + 1) (pos 0) (pos most_amount)) (due 7 1 (pos 0) (pos most_amount)))))
  unfolding due_at
  later h = rw (ne_eqb place 0 (λ e. omega arith), ne_eqb place 1 (λ e. omega arith), le-ltb place (k + 3) h)

  pub due_indices : place ≡ k + 3 → due_at k place ≡ due 3 (k + 1) (pos 1) (pos most_index)
  due_indices e = later (omega arith) ∙ rw (eq-eqb place (k + 3) e)

  pub due_reporting : place ≡ k + 4 → due_at k place ≡ due 4 (k + 1) (pos 0) (pos million)
  due_reporting e = later (omega arith) ∙ rw (ne_eqb place (k + 3) (λ f. omega arith), eq-eqb place (k + 4) e)

  pub due_weight : place ≡ k + 5 → due_at k place ≡ due 5 1 (pos 0) (pos million)
  due_weight e = later (omega arith) ∙ rw (ne_eqb place (k + 3) (λ f. omega arith), ne_eqb place (k + 4) (λ f. omega arith), eq-eqb place (k + 5) e)

  pub due_ulae : place ≡ k + 6 → due_at k place ≡ due 6 (k + 1) (pos 0) (pos most_amount)
  due_ulae e =
      later (omega arith)
      ∙ rw (ne_eqb place (k + 3) (λ f. omega arith), ne_eqb place (k + 4) (λ f. omega arith), ne_eqb place (k + 5) (λ f. omega arith), eq-eqb place (k + 6) e)

  pub due_tail : place ≡ k + 7 → due_at k place ≡ due 7 1 (pos 0) (pos most_amount)
  due_tail e =
      later (omega arith)
      ∙ rw (ne_eqb place (k + 3) (λ f. omega arith), ne_eqb place (k + 4) (λ f. omega arith), ne_eqb place (k + 5) (λ f. omega arith), ne_eqb place (k + 6) (λ f. omega arith))

-- how many numbers the lines before a place take: up to an origin year's increments, and all of them
start_paid : (k i : ℕ) → i ≤ k + 1 → start_at k (suc (suc i)) ≡ k + 2 + row_start k i
unfolding start_in due_at row_start up_to total
start_paid k zero h = omega arith
start_paid k (suc i) h =
    let e : k + 2 + row_start k i + (k + 1 - i) ≡ k + 2 + (row_start k i + (k + 1 - i)) = omega arith in
    line_start_more k (suc (suc i)) ∙ rw (start_paid k i (omega arith), due_paid k i (omega arith), e)

pub start_all : (k : ℕ) → start_at k (line_count k) ≡ cells k + 4 * k + 7
start_all k =
    let place : k + 8 ≡ suc (suc (suc (suc (suc (suc (suc (k + 1))))))) = omega arith in
    let n : ℕ = suc (suc (k + 1)) in
    rw (
      place,
      line_start_more k (suc (suc (suc (suc n)))),
      line_start_more k (suc (suc (suc n))),
      line_start_more k (suc (suc n)),
      line_start_more k (suc n),
      line_start_more k n,
      start_paid k (k + 1) (omega arith),
      rows_all k,
      due_indices k n (omega arith),
      due_reporting k (suc n) (omega arith),
      due_weight k (suc (suc n)) (omega arith),
      due_ulae k (suc (suc (suc n))) (omega arith),
      due_tail k (suc (suc (suc (suc n)))) (omega arith),
    )
    (omega arith)

-- there is room for the numbers of a line among 203
pub start_room : (k place : ℕ) → k < 16 → place < line_count k → start_at k place + (due_at k place).count ≤ most_fields
unfolding start_in
start_room k place h l =
    omega (arith, line_start_more k place, total_part (λ i. (due_at k i).count) (suc place) (line_count k) l, start_all k, cells_most k h)
