-- A line of inflation that stands for the indices is read as the line of the whole indices that it makes. Assumes nothing.
use mathlib.Core.Path.{◌≡◌, refl, sym, ◌∙◌}
use mathlib.Core.Bool.{true, false, ◌&&◌}
use mathlib.Core.List.{List, [], ◌∷◌, ◌++◌, map, map-append}
use Prim.Native.Nat.{ℕ, zero, suc, ◌+◌, ◌≤◌, ◌<◌}
use native.Mathlib.Omega.{arith}
use borrow.Author.Tests.{eqb-true, leb-true, le-leb}
use lib.Dec.{eqb, leb}
use lib.IntN.{ℤ, pos}
use lib.ListN.{get_or}
use Rattle.rules.specs.Lists.{up_to}
use Rattle.rules.specs.Record.{most_index}
use Rattle.rules.specs.Inflation.{index_after}
use Rattle.laws.proofs.Lists.{both_left, both_right}
use Rattle.composing.specs.Text.{ascii}
use Rattle.inflation.proofs.Answers.{index_within}
use Rattle.inflation_line.specs.InflationLine.{is_inflation, shape_of, fault_in}
use Rattle.inflation_line.proofs.Lines.{fault_accepted}
use Rattle.sheet.specs.Table.{labels, label_due, due, indices_place, due_at}
use Rattle.sheet.proofs.Table.{due_indices}
use Rattle.sheet.specs.Sheet.{spaced, last_year_in, fine, stands_for_indices, indices_made, read_next}
use Rattle.line_reading.proofs.Known.{stands_place, made_count}
use Rattle.inflation_reading.proofs.Made.{next_made}
use Rattle.sheet_record.proofs.Sheets.{Okay, AllOkay, written_read}

-- numbers that may stand in a line, one more at the end
okay_more : (r : ℤ × ℤ) (xs : List ℤ) (x : ℤ) → AllOkay r xs → Okay r x → AllOkay r (xs ++ (x ∷ []))
okay_more r [] x a o = (o, tt)
okay_more r (y ∷ xs) x a o = (a.0, okay_more r xs x a.1 o)

-- the indices that an accepted line makes
index_okay : (w : ℕ) → (1 ≤ w) × (w ≤ most_index) → Okay (pos 1, pos most_index) (pos w)
index_okay w h = record { small = omega arith; within = rw (le-leb 1 w h.0, le-leb w most_index h.1) }

-- each of some indices may stand in their line
indices_okay : (f : ℕ → ℕ) (n : ℕ) → ((i : ℕ) → i < n → (1 ≤ f i) × (f i ≤ most_index)) → AllOkay (pos 1, pos most_index) (map pos (up_to f n))
unfolding up_to
indices_okay f zero h = tt
indices_okay f (suc n) h =
    rw (map-append pos (up_to f n) (f n ∷ []))
    (okay_more (pos 1, pos most_index) (map pos (up_to f n)) (pos (f n)) (indices_okay f n (λ i l. h i (omega arith))) (index_okay (f n) (h n (omega arith))))

module _ (k i : ℕ) (line : List ℕ) (h : stands_for_indices false k i line ≡ true) where
  place : i ≡ indices_place k
  place = stands_place false k i line h

  made_within : (n : ℕ) → n < k + 1 → (1 ≤ index_after (shape_of line) n) × (index_after (shape_of line) n ≤ most_index)
  unfolding stands_for_indices
  made_within n l =
      let none = eqb-true _ 0 (both_right (is_inflation line) (eqb (fault_in (k + 1) line).kind 0) (both_right (eqb i (indices_place k)) (is_inflation line && eqb (fault_in (k + 1) line).kind 0) h)) in
      let w = index_after (shape_of line) n in
      let within = index_within (shape_of line) (k + 1) (fault_accepted (k + 1) line none) n l in
      (leb-true 1 w (both_left (leb 1 w) (leb w most_index) within), leb-true w most_index (both_right (leb 1 w) (leb w most_index) within))

-- the line `indices` with the whole numbers that a line of inflation makes
abbrev pub whole_indices : ℕ → List ℕ → List ℕ
whole_indices k line = ascii "indices" ++ spaced (map pos (indices_made k line))

indices_label : get_or labels 3 [] ≡ ascii "indices"
unfolding labels
indices_label = refl

-- wherever the line of inflation stands for the indices, that line is read as the same
pub read_as_indices : (n i : ℕ) (vs : List ℤ) (line : List ℕ) → stands_for_indices false (last_year_in vs) i line ≡ true
    → read_next false n i vs line ≡ read_next false n i vs (whole_indices (last_year_in vs) line)
unfolding indices_made
read_as_indices n i vs line h =
    let k = last_year_in vs in
    let xs = map pos (indices_made k line) in
    let e = place k i line h in
    let d : due_at k i ≡ due 3 (k + 1) (pos 1) (pos most_index) = due_indices k i e in
    let written : read_next false n i vs (label_due (due_at k i) ++ spaced xs) ≡ fine n (suc i) (vs ++ xs) =
    written_read n i vs xs (λ z. omega arith) (rw d (made_count k line)) (rw d (indices_okay (index_after (shape_of line)) (k + 1) (made_within k i line h))) in
    next_made false n i vs line h ∙ sym (rw (d, indices_label) at written)
