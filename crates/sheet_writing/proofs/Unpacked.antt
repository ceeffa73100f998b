-- The sheet of a list that a record was read into is the sheet of the record's fields. Assumes nothing.
use mathlib.Core.Path.{◌≡◌, refl, ap, ◌∙◌}
use mathlib.Core.List.{List, [], ◌∷◌, ◌++◌}
use Prim.Native.Nat.{ℕ, ◌+◌, ◌≤◌, ◌<◌}
use native.Mathlib.Omega.{arith}
use lib.IntN.{ℤ, pos, nat_abs}
use lib.ListN.{length, get_or, drop, length-drop, get_or-append}
use lib.Seq.{sets-eq, take-append-le, drop-append-le}
use Rattle.rules.specs.Lists.{total}
use Rattle.rules.specs.Packing.{Fit}
use Rattle.rules.specs.Questions.{after_call}
use Rattle.rules.specs.Record.{field_count, last_year_of, fields_of, most_fields}
use Rattle.rules.specs.Reading.{read_answer_of, read_into}
use Rattle.laws.proofs.Questions.{after_refusal}
use Rattle.layout.proofs.RecordSizes.{fields_count, years_lt}
use Rattle.record.proofs.RecordAnswers.{reader_yes}
use Rattle.record.proofs.Fields.{RecordFields}
use Rattle.record.proofs.Number.{record-read}
use Rattle.sheet.specs.declared.Due.{Due}
use Rattle.sheet.specs.Table.{due_lines}
use Rattle.sheet.specs.Sheet.{lines_of, last_year_in, sheet_of}
use Rattle.sheet_writing.specs.Shown.{shown_text}
use Rattle.sheet_writing.proofs.LinesPut.{counts_of, sheet_counts}

-- lines look at no more entries than they have numbers
lines_first : (ds : List Due) (vs ys : List ℤ) → counts_of ds ≤ length vs → lines_of ds (vs ++ ys) ≡ lines_of ds vs
unfolding lines_of total
lines_first [] vs ys h = refl
lines_first (d ∷ ds) vs ys h =
    rw (
      take-append-le d.count vs ys (omega arith),
      drop-append-le d.count vs ys (omega arith),
      lines_first ds (drop d.count vs) ys (omega (arith, length-drop d.count vs)),
    )

-- the fields first in a list
years_first : (k : ℕ) (vs ys : List ℤ) → length vs ≡ field_count k → get_or vs 0 (pos 0) ≡ pos k → last_year_in (vs ++ ys) ≡ k
years_first k vs ys size first = ap nat_abs (get_or-append vs ys (pos 0) 0 (omega (arith, fields_count k)) ∙ first)

pub sheet_first : (k : ℕ) (vs ys : List ℤ) → length vs ≡ field_count k → get_or vs 0 (pos 0) ≡ pos k → sheet_of (vs ++ ys) ≡ sheet_of vs
unfolding sheet_of
sheet_first k vs ys size first =
    let e : last_year_in (vs ++ ys) ≡ k = years_first k vs ys size first in
    let f : last_year_in vs ≡ k = ap nat_abs first in
    rw (e, f) (lines_first (due_lines k) vs ys (omega (arith, sheet_counts k)))

-- the fields of an accepted record are a record's
pub accepted_fields : (s : List ℕ) (m : ℕ) → Fit 8 s → read_answer_of s m ≡ 0 → RecordFields (last_year_of s) (fields_of s)
accepted_fields s m h r =
    let a = reader_yes s m r in
    (record-read s h a.size a.filled a.ranges).0

module _ (s : List ℕ) (h : Fit 8 s) (r : read_answer_of s most_fields ≡ 0) (out : List ℤ) (long : length out ≡ most_fields) where
  -- the list that it was read into: the fields and what follows them
  read_list : read_into s out ≡ fields_of s ++ drop (0 + length (fields_of s)) out
  unfolding read_into after_call
  read_list =
      let f = accepted_fields s most_fields h r in
      rw (long, r) (sets-eq (fields_of s) out 0 (omega (arith, f.size, (reader_yes s most_fields r).room)))

  -- k is below 16
  pub read_years : last_year_in (read_into s out) < 16
  read_years =
      let f = accepted_fields s most_fields h r in
      rw (read_list, years_first (last_year_of s) (fields_of s) (drop (0 + length (fields_of s)) out) f.size f.first) (years_lt s h)

  -- the text is that of the record
  pub read_sheet_lem : sheet_of (read_into s out) ≡ shown_text s
  unfolding shown_text after_call
  read_sheet_lem =
      let f = accepted_fields s most_fields h r in
      rw (r, read_list) (sheet_first (last_year_of s) (fields_of s) _ f.size f.first)

-- a refused record is shown as nothing
pub none_shown : (s : List ℕ) → (read_answer_of s most_fields ≡ 0 → ⊥) → shown_text s ≡ []
unfolding shown_text
none_shown s h = after_refusal (read_answer_of s most_fields) _ _ h
