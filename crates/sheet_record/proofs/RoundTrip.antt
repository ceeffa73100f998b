-- The text of an accepted record, read again, has nothing wrong and gives the record's fields, and packing it makes the record again.
-- Assumes nothing.
use mathlib.Core.Path.{◌≡◌, refl, sym, ap, ◌∙◌}
use mathlib.Core.Bool.{false, and-false}
use mathlib.Core.List.{List, [], ◌∷◌, ◌++◌, append-nil}
use Prim.Native.Nat.{ℕ, suc, ◌+◌, ◌≤◌, ◌<◌}
use native.Mathlib.Omega.{arith}
use lib.Dec.{eqb, leb}
use lib.IntN.{ℤ, pos, nat_abs}
use lib.ListN.{length, get_or, take, drop, drop_of_length-le}
use lib.Seq.{take-add, take_all, sets-eq, length-take-le}
use Rattle.rules.specs.Lists.{up_to, total}
use Rattle.rules.specs.Packing.{Fit}
use Rattle.rules.specs.Questions.{after_call}
use Rattle.rules.specs.Record.{field_count, last_year_of, fields_of, most_fields}
use Rattle.rules.specs.Reading.{read_answer_of, read_into}
use Rattle.rules.specs.Writing.{given_in, write_answer, write_into}
use Rattle.laws.proofs.Lists.{length_up_to}
use Rattle.layout.proofs.RecordSizes.{fields_count, years_lt}
use Rattle.record.proofs.RecordAnswers.{reader_yes, yes_reader}
use Rattle.record.proofs.Fields.{RecordFields}
use Rattle.record.proofs.RoundTrip.{written_again}
use Rattle.composing.specs.Text.{Put}
use Rattle.composing.proofs.Puts.{put_back}
use Rattle.sheet.specs.Table.{labels, line_count, due_at}
use Rattle.kinds.specs.Kinds.{marked}
use Rattle.sheet.specs.Sheet.{line_of, lines_of, last_year_in, sheet_of, unmarked, fine, read_text, read_sheet, record_size, pack_answer, pack_into, fault_of, packed_answer, packed_into}
use Rattle.sheet_writing.specs.Shown.{shown_text}
use Rattle.sheet_writing.proofs.LinesPut.{counts_of, sheet_counts}
use Rattle.sheet_writing.proofs.Unpacked.{accepted_fields}
use Rattle.sheet_record.proofs.Length.{sheet_length}
use Rattle.sheet_record.proofs.Asked.{sheet_asked}
use Rattle.sheet_record.proofs.Ranges.{fields_sound}
use Rattle.sheet_record.proofs.Sheets.{dues_first, dues_others, due_ranges, EachWithin, split, one_line, lines_sound}

-- the first of some fields
first_one : (vs : List ℤ) (k : ℕ) → 1 ≤ length vs → get_or vs 0 (pos 0) ≡ pos k → take 1 vs ≡ pos k ∷ []
first_one [] k h e = absurd (omega arith)
first_one (v ∷ vs) k h e = ap (λ (z : ℤ). z ∷ []) e

-- a text with another first byte than the mark's has no mark
other_first : (text : List ℕ) → eqb (get_or text 0 0) 239 ≡ false → unmarked text ≡ text
unfolding unmarked marked
other_first text e = rw (e, and-false (leb 3 (length text)))

module _ (k : ℕ) (vs : List ℤ) (f : RecordFields k vs) where
  -- the text begins with k, and so with no mark
  text_is : sheet_of vs ≡ line_of (due_at k 0) (take 1 vs) ++ lines_of (up_to (λ j. due_at k (1 + j)) (k + 7)) (drop 1 vs)
  unfolding sheet_of lines_of due_at
  text_is = rw (ap nat_abs f.first, dues_first k)

  no_mark : unmarked (sheet_of vs) ≡ sheet_of vs
  unfolding line_of due_at labels
  no_mark = rw text_is (other_first (line_of (due_at k 0) (take 1 vs) ++ lines_of (up_to (λ j. due_at k (1 + j)) (k + 7)) (drop 1 vs)) refl)

  -- the text of the fields of a record, read: nothing is wrong, every line due was there, and the numbers are the fields
  pub sheet_back : read_sheet (sheet_of vs) ≡ fine (k + 9) (line_count k) vs
  unfolding read_text due_at total
  sheet_back =
      let ds = up_to (λ j. due_at k (1 + j)) (k + 7) in
      let one : take 1 vs ≡ pos k ∷ [] = first_one vs k (omega (arith, f.size, fields_count k)) f.first in
      let sound : EachWithin (due_ranges (due_at k 0 ∷ ds)) vs = rw (dues_first k) at (fields_sound k vs f) in
      let parts = split 1 (pos 1, pos 15) (due_ranges ds) vs sound in
      let counts : 1 + counts_of ds ≡ length vs = sym (ap counts_of (dues_first k)) ∙ sheet_counts k ∙ sym f.size in
      let number : suc (1 + length ds) ≡ k + 9 = omega (arith, length_up_to (λ j. due_at k (1 + j)) (k + 7)) in
      let all : take 1 vs ++ take (counts_of ds) (drop 1 vs) ≡ vs = sym (take-add 1 (counts_of ds) vs) ∙ take_all (1 + counts_of ds) vs (omega arith) in
      rw (no_mark, text_is)
      (one_line 0 0 [] (take 1 vs) (lines_of ds (drop 1 vs)) (λ e. absurd (omega arith)) parts.size parts.first
      ∙ lines_sound k 1 1 (take 1 vs) ds (drop 1 vs) (omega (arith, parts.size)) (ap last_year_in one) (dues_others k) parts.others
      ∙ rw (number, all))

-- the reader accepts a record also where the list has just as many entries as there are fields
just_room : (s : List ℕ) (m : ℕ) → read_answer_of s m ≡ 0 → read_answer_of s (field_count (last_year_of s)) ≡ 0
just_room s m r =
    let a = reader_yes s m r in
    yes_reader s (field_count (last_year_of s))
    (record { years = a.years; size = a.size; filled = a.filled; room = omega arith; ranges = a.ranges; sum = a.sum })

-- such a list holds the fields afterwards, and nothing else
just_fields : (s : List ℕ) (out : List ℤ) → read_answer_of s (length out) ≡ 0 → length (fields_of s) ≡ length out → read_into s out ≡ fields_of s
unfolding read_into after_call
just_fields s out r e =
    rw r
    (sets-eq (fields_of s) out 0 (omega arith)
    ∙ rw (drop_of_length-le out {i = 0 + length (fields_of s)} (omega arith)) (append-nil (fields_of s)))

module _ (s : List ℕ) (m : ℕ) (h : Fit 8 s) (r : read_answer_of s m ≡ 0) where
  -- the text of an accepted record, read: nothing is wrong, and the numbers are the record's fields
  pub shown_back : read_sheet (sheet_of (fields_of s)) ≡ fine (last_year_of s + 9) (line_count (last_year_of s)) (fields_of s)
  shown_back = sheet_back (last_year_of s) (fields_of s) (accepted_fields s m h r)

  -- the writer makes the record again from its fields
  fields_written : (buffer : List ℕ) → length buffer ≡ length s → (write_answer (given_in (fields_of s)) (length s) ≡ 0) × (write_into (given_in (fields_of s)) buffer ≡ s)
  fields_written buffer e =
      let answer : read_answer_of s (length (fields_of s)) ≡ 0 = rw (accepted_fields s m h r).size (just_room s m r) in
      rw (just_fields s (fields_of s) answer refl, e) at (written_again s (fields_of s) buffer h answer e)

  -- the record is as long as k calls for
  size_is : record_size (fields_of s) ≡ length s
  size_is = rw (ap nat_abs (accepted_fields s m h r).first) (sym (reader_yes s m r).size)

  -- nothing is asked of a line of inflation
  nothing_asked : (fault_of (sheet_of (fields_of s))).kind ≡ 0
  nothing_asked = rw (no_mark (last_year_of s) (fields_of s) (accepted_fields s m h r)) (sheet_asked (fields_of s))

  -- packing the text of an accepted record makes the record again
  pub packed_again : (buffer : List ℕ) → length s ≤ length buffer
      → (packed_answer (sheet_of (fields_of s)) ≡ 0) × (packed_into (sheet_of (fields_of s)) buffer ≡ s ++ drop (length s) buffer)
  unfolding packed_answer packed_into pack_answer pack_into
  packed_again buffer room =
      let w = fields_written (take (length s) buffer) (length-take-le (length s) buffer room) in
      rw (nothing_asked, shown_back, size_is) (w.0, ap (λ (l : List ℕ). l ++ drop (length s) buffer) w.1)

-- packing what an accepted record is shown as, in a buffer of at least 4593 bytes, makes the record again
pub unpacked_packed : (s : List ℕ) → Fit 8 s → read_answer_of s most_fields ≡ 0 → {a b : List ℕ} {j : ℕ} → Put a b 0 j (shown_text s) → 4593 ≤ length a
    → (buffer : List ℕ) → length s ≤ length buffer
    → (packed_answer (take j b) ≡ 0) × (packed_into (take j b) buffer ≡ s ++ drop (length s) buffer)
unfolding shown_text after_call
unpacked_packed s h r {a} {b} {j} p long buffer room =
    let years : last_year_in (fields_of s) < 16 = rw (ap nat_abs (accepted_fields s most_fields h r).first) (years_lt s h) in
    let text : Put a b 0 j (sheet_of (fields_of s)) = rw r at p in
    let back : take j b ≡ sheet_of (fields_of s) = put_back text (omega (arith, sheet_length (fields_of s) years)) in
    rw back (packed_again s most_fields h r buffer room)
