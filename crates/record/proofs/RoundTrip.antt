-- One record for one set of figures: what the reader accepts the writer makes again, what the writer accepts the reader gives back,
-- and two accepted records with the same fields, the same list or the same figures are the same. Assumes nothing.
use Prim.Native.Nat.{ℕ, zero, suc, ◌≤◌}
use native.Mathlib.Omega.{arith}
use mathlib.Core.Path.{◌≡◌, refl, sym, ap, ap₂, ◌∙◌}
use mathlib.Core.List.{List, ◌∷◌, [], ◌++◌}
use lib.IntN.{ℤ}
use lib.ListN.{length}
use lib.Seq.{sets}
use Rattle.rules.specs.Questions.{after_call, first_no}
use Rattle.rules.specs.Record.{Figures, field_count, byte_count, last_year_of, fields_of, figures_of, record_of}
use Rattle.rules.specs.Reading.{read_answer_of, read_into, has_room, opening_questions, field_questions}
use Rattle.rules.specs.Writing.{given_in, given_fields, write_answer, write_into}
use Rattle.rules.specs.Packing.{Fit}
use Rattle.rules.specs.Lists.{every}
use Rattle.rules.specs.Engine.{figure_questions, holds_list, questions, run_answer}
use Rattle.packing.proofs.Pack.{bytes_small}
use Rattle.layout.proofs.RecordSizes.{years_lt}
use Rattle.opening.proofs.Opened.{WholeRecord}
use Rattle.reader.proofs.FieldsPut.{list_of, list_same}
use Rattle.laws.proofs.Questions.{both_zero, later_answer}
use borrow.Author.Tests.{le-leb}
use native.Mathlib.Nat.{le_refl}
use Rattle.record.proofs.RecordAnswers.{Accepted, Taken, reader_yes, yes_reader, writer_yes, yes_writer}
use Rattle.record.proofs.Cut.{cut_by, given_stored, given_cut, cut_taken, given_fields_lem, given_again}
use Rattle.record.proofs.Fields.{RecordFields}
use Rattle.record.proofs.Number.{record-made, record-read}

-- the fields of an accepted record are a record's, and make it again
accepted_read : (s : List ℕ) (m : ℕ) → Fit 8 s → Accepted s m → RecordFields (last_year_of s) (fields_of s) × (record_of (last_year_of s) (fields_of s) ≡ s)
accepted_read s m h a = record-read s h a.size a.filled a.ranges

-- what is found in the lent list after a reading is found among the fields
given_read : (s : List ℕ) (out : List ℤ) → RecordFields (last_year_of s) (fields_of s) → read_answer_of s (length out) ≡ 0 → field_count (last_year_of s) ≤ length out
    → given_in (read_into s out) ≡ cut_by (last_year_of s) (fields_of s)
unfolding read_into after_call
given_read s out f r room = rw r (given_stored (last_year_of s) (fields_of s) f out room)

-- the writer makes an accepted record again from what is cut out of its fields
cut_written : (s : List ℕ) (m : ℕ) (buffer : List ℕ) → Fit 8 s → Accepted s m → length buffer ≡ length s
    → (write_answer (cut_by (last_year_of s) (fields_of s)) (length buffer) ≡ 0) × (write_into (cut_by (last_year_of s) (fields_of s)) buffer ≡ s)
unfolding write_into after_call
cut_written s m buffer h a e =
    let k = last_year_of s in
    let vs = fields_of s in
    let f = accepted_read s m h a in
    let t = cut_taken k vs f.0 (length buffer) a.years (omega (arith, years_lt s h)) (e ∙ a.size) a.sum in
    let w = yes_writer (cut_by k vs) (length buffer) t in
    (w, rw (w, given_cut k vs f.0) f.1)

-- whatever the reader accepts, the writer makes again byte for byte
pub written_again : (s : List ℕ) (out : List ℤ) (buffer : List ℕ) → Fit 8 s → read_answer_of s (length out) ≡ 0 → length buffer ≡ length s
    → (write_answer (given_in (read_into s out)) (length buffer) ≡ 0) × (write_into (given_in (read_into s out)) buffer ≡ s)
written_again s out buffer h r e =
    let a = reader_yes s (length out) r in
    rw (given_read s out (accepted_read s (length out) h a).0 r a.room) (cut_written s (length out) buffer h a e)

-- the reader accepts the record of what a writer takes
made_accepted : (g : Figures) (m n : ℕ) → Taken g m → field_count g.k ≤ n → Accepted (record_of g.k (given_fields g)) n
made_accepted g m n t room =
    let h = record-made g.k (given_fields g) (given_fields_lem g m t) in
    record {
      years = rw h.years t.years;
      size = rw h.years h.size;
      filled = h.filled;
      room = rw h.years room;
      ranges = rw h.years h.ranges;
      sum = rw (h.years, h.values, ap (λ (z : Figures). z.reporting) (given_again g m t)) t.sum;
    }

-- whatever the writer accepts, the reader gives back, and the lists are found there
pub read_back : (g : Figures) (buffer : List ℕ) (out : List ℤ) → write_answer g (length buffer) ≡ 0 → field_count g.k ≤ length out
    → (read_answer_of (write_into g buffer) (length out) ≡ 0)
    × ((read_into (write_into g buffer) out ≡ sets out 0 (given_fields g)) × (given_in (read_into (write_into g buffer) out) ≡ g))
unfolding read_into write_into after_call
read_back g buffer out w room =
    let t = writer_yes g (length buffer) w in
    let f = given_fields_lem g (length buffer) t in
    let r = yes_reader (record_of g.k (given_fields g)) (length out) (made_accepted g (length buffer) (length out) t room) in
    let stored = given_stored g.k (given_fields g) f out room ∙ given_again g (length buffer) t in
    rw (w, r, (record-made g.k (given_fields g) f).values) (refl, (refl, stored))

-- two accepted records with the same fields are the same record
pub same_record : (s t : List ℕ) (m n : ℕ) → Fit 8 s → Fit 8 t → read_answer_of s m ≡ 0 → read_answer_of t n ≡ 0 → fields_of s ≡ fields_of t → s ≡ t
same_record s t m n hs ht rs rt e =
    let a = accepted_read s m hs (reader_yes s m rs) in
    let b = accepted_read t n ht (reader_yes t n rt) in
    let k : last_year_of s ≡ last_year_of t = cc in
    sym a.1 ∙ ap₂ record_of k e ∙ b.1

-- the fields of an accepted record are known from the lent list after the reading
fields_known : (s : List ℕ) (out : List ℤ) → Fit 8 s → read_answer_of s (length out) ≡ 0 → given_fields (given_in (read_into s out)) ≡ fields_of s
fields_known s out h r =
    let a = reader_yes s (length out) r in
    let f = (accepted_read s (length out) h a).0 in
    rw (given_read s out f r a.room) (given_cut (last_year_of s) (fields_of s) f)

-- two accepted records that leave the same list are the same record
pub same_list : (s t : List ℕ) (out out' : List ℤ) → Fit 8 s → Fit 8 t → read_answer_of s (length out) ≡ 0 → read_answer_of t (length out') ≡ 0
    → read_into s out ≡ read_into t out' → s ≡ t
same_list s t out out' hs ht rs rt e =
    let fields = sym (fields_known s out hs rs) ∙ ap (λ (l : List ℤ). given_fields (given_in l)) e ∙ fields_known t out' ht rt in
    same_record s t (length out) (length out') hs ht rs rt fields

-- an accepted record has passed questions 1 and 2
accepted_whole : (s : List ℕ) (m : ℕ) → Fit 8 s → Accepted s m → WholeRecord s
accepted_whole s m h a = record { small = h; some = a.years; few = years_lt s h; long = a.size }

-- two accepted records with the same figures are the same record
pub same_figures : (s t : List ℕ) (m n : ℕ) → Fit 8 s → Fit 8 t → read_answer_of s m ≡ 0 → read_answer_of t n ≡ 0 → figures_of s ≡ figures_of t → s ≡ t
same_figures s t m n hs ht rs rt e =
    let listed = list_same s (accepted_whole s m hs (reader_yes s m rs)) in
    let listed' = list_same t (accepted_whole t n ht (reader_yes t n rt)) in
    same_record s t m n hs ht rs rt (sym listed ∙ ap list_of e ∙ listed')

-- what holds of what is written and of what was held holds after a call
after_either : {A : Type 0} (P : A → Type 0) (n : ℕ) (written held : A) → P written → P held → P (after_call n written held)
unfolding after_call
after_either P zero written held w h = w
after_either P (suc n) written held w h = h

-- a buffer of bytes is one of bytes after the writing
pub written_bytes : (g : Figures) (buffer : List ℕ) → Fit 8 buffer → Fit 8 (write_into g buffer)
unfolding write_into record_of
written_bytes g buffer h =
    after_either (Fit 8) (write_answer g (length buffer)) (record_of g.k (given_fields g)) buffer (bytes_small (byte_count g.k) _) h

-- what the engine accepts in some valuation year, a reader with room for the fields accepts
pub run_read : (year : ℕ) (s : List ℕ) (m n : ℕ) → run_answer year s m ≡ 0 → field_count (last_year_of s) ≤ n → read_answer_of s n ≡ 0
unfolding run_answer questions read_answer_of has_room opening_questions field_questions every first_no
run_read year s m n ok room =
    let first = both_zero (opening_questions s) ((3, holds_list s m) ∷ (field_questions s ++ figure_questions year (figures_of s))) refl ok in
    let rest = both_zero ((3, holds_list s m) ∷ []) (field_questions s ++ figure_questions year (figures_of s)) refl first.1 in
    let fields = both_zero (field_questions s) (figure_questions year (figures_of s)) refl rest.1 in
    later_answer (opening_questions s) ((3, has_room s n) ∷ field_questions s) refl first.0 ∙ rw (le-leb (field_count (last_year_of s)) n room) fields.0

-- so two records that the engine accepts with the same figures, each in some year, are the same record
pub same_run : (x y : ℕ) (s t : List ℕ) (m n : ℕ) → Fit 8 s → Fit 8 t → run_answer x s m ≡ 0 → run_answer y t n ≡ 0 → figures_of s ≡ figures_of t → s ≡ t
same_run x y s t m n hs ht rs rt e =
    let a = field_count (last_year_of s) in
    let b = field_count (last_year_of t) in
    same_figures s t a b hs ht (run_read x s m a rs (le_refl a)) (run_read y t n b rt (le_refl b)) e
