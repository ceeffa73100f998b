-- How long a sheet is at most: 4593 bytes. Assumes nothing.
use mathlib.Core.Path.{◌≡◌, refl, ◌∙◌}
use mathlib.Core.List.{List, [], ◌∷◌, ◌++◌}
use Prim.Native.Nat.{ℕ, zero, suc, ◌+◌, ◌*◌, ◌≤◌, ◌<◌}
use native.Mathlib.Omega.{arith}
use lib.IntN.{ℤ, nat_abs}
use lib.ListN.{length, take, drop, length-append, length-take}
use Rattle.rules.specs.Lists.{up_to, total}
use Rattle.laws.proofs.TriangleRows.{cells_most}
use Rattle.layout.proofs.RecordSizes.{fields_count}
use Rattle.composing.specs.Text.{decimal, sign, integer}
use Rattle.composing.proofs.Decimals.{length_most, length_sign}
use Rattle.sheet.specs.declared.Due.{Due}
use Rattle.sheet.specs.Table.{labels, label_due, line_count, due_at, due_lines}
use Rattle.sheet.specs.Sheet.{spaced, line_of, lines_of, last_year_in, sheet_of}
use Rattle.sheet.proofs.Table.{due_paid, due_indices, due_reporting, due_weight, due_ulae, due_tail}
use Rattle.sheet_writing.proofs.LinesPut.{counts_of, sheet_counts}

-- a number takes at most 21 places, and a space before it
spaced_length : (vs : List ℤ) → length (spaced vs) ≤ 22 * length vs
unfolding spaced integer
spaced_length [] = omega arith
spaced_length (v ∷ vs) =
    omega (arith, length-append (integer v) (spaced vs), length-append (sign v) (decimal (nat_abs v)), length_sign v, length_most (nat_abs v), spaced_length vs)

-- the labels and the line feeds
abbrev labels_of : List Due → ℕ
labels_of [] = 0
labels_of (d ∷ ds) = length (label_due d) + 1 + labels_of ds

lines_length : (ds : List Due) (vs : List ℤ) → length (lines_of ds vs) ≤ labels_of ds + 22 * counts_of ds
unfolding lines_of line_of total
lines_length [] vs = omega arith
lines_length (d ∷ ds) vs =
    let xs = take d.count vs in
    let rest = lines_of ds (drop d.count vs) in
    omega (
      arith,
      length-append (line_of d xs) rest,
      length-append (label_due d) (spaced xs ++ (10 ∷ [])),
      length-append (spaced xs) (10 ∷ []),
      spaced_length xs,
      length-take d.count vs,
      lines_length ds (drop d.count vs),
    )

labels_more : (ds : List Due) (d : Due) → labels_of (ds ++ (d ∷ [])) ≡ labels_of ds + (length (label_due d) + 1)
labels_more [] d = omega arith
labels_more (e ∷ ds) d = omega (arith, labels_more ds d)

paid_labels : (k i : ℕ) → i ≤ k + 1 → labels_of (up_to (due_at k) (suc (suc i))) ≡ 12 + 5 * i
unfolding up_to due_at labels
paid_labels k zero h = refl
paid_labels k (suc i) h =
    labels_more (up_to (due_at k) (suc (suc i))) (due_at k (suc (suc i))) ∙ rw (paid_labels k i (omega arith), due_paid k i (omega arith)) (omega arith)

sheet_labels : (k : ℕ) → labels_of (due_lines k) ≡ 47 + 5 * (k + 1)
unfolding due_lines up_to labels
sheet_labels k =
    let place : line_count k ≡ suc (suc (suc (suc (suc (suc (suc (k + 1))))))) = omega arith in
    let n : ℕ = suc (suc (k + 1)) in
    rw (
      place,
      labels_more (up_to (due_at k) (suc (suc (suc (suc n))))) (due_at k (suc (suc (suc (suc n))))),
      labels_more (up_to (due_at k) (suc (suc (suc n)))) (due_at k (suc (suc (suc n)))),
      labels_more (up_to (due_at k) (suc (suc n))) (due_at k (suc (suc n))),
      labels_more (up_to (due_at k) (suc n)) (due_at k (suc n)),
      labels_more (up_to (due_at k) n) (due_at k n),
      paid_labels k (k + 1) (omega arith),
      due_indices k n (omega arith),
      due_reporting k (suc n) (omega arith),
      due_weight k (suc (suc n)) (omega arith),
      due_ulae k (suc (suc (suc n))) (omega arith),
      due_tail k (suc (suc (suc (suc n)))) (omega arith),
    )
    (omega arith)

-- the text of the fields of a record
pub sheet_length : (vs : List ℤ) → last_year_in vs < 16 → length (sheet_of vs) ≤ 4593
unfolding sheet_of
sheet_length vs few =
    let k = last_year_in vs in
    omega (arith, lines_length (due_lines k) vs, sheet_labels k, sheet_counts k, fields_count k, cells_most k few)
