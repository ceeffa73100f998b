-- The text of an accepted run is that of its list, and of a refused one that of its number; so for the reader. Assumes nothing.
use mathlib.Core.Path.{◌≡◌, refl, sym, ◌∙◌}
use mathlib.Core.List.{List}
use Prim.Native.Nat.{ℕ, ◌≤◌}
use borrow.Author.Tests.{ne_eqb}
use lib.IntN.{ℤ, pos}
use lib.ListN.{length, take, replicate}
use Rattle.rules.specs.Lists.{every}
use Rattle.rules.specs.Packing.{Fit}
use Rattle.rules.specs.Questions.{after_call}
use Rattle.rules.specs.Record.{most_fields, field_count, last_year_of, fields_of, figures_of}
use Rattle.rules.specs.Reading.{opening_questions, read_answer_of, read_into}
use Rattle.rules.specs.Results.{result_count, most_entries, results_of}
use Rattle.rules.specs.Engine.{questions, run_answer, run_into}
use Rattle.laws.proofs.Joined.{take_sets}
use Rattle.laws.proofs.Questions.{both_zero}
use Rattle.opening.proofs.Opened.{years_known_lem, opening_yes}
use Rattle.record.proofs.RecordAnswers.{reader_yes}
use Rattle.record.proofs.Number.{record-read}
use Rattle.results.proofs.SectionPlaces.{results_length}
use Rattle.list_text.specs.EntryLines.{entries_by, entries_text, refused_text}
use Rattle.list_runs.specs.Runs.{run_text, fields_text}

-- a refused run and a refused reading
pub run_refused : (between year : ℕ) (s : List ℕ) → (run_answer year s most_entries ≡ 0 → ⊥) → run_text between year s ≡ refused_text (run_answer year s most_entries)
unfolding run_text
run_refused between year s h = rw (ne_eqb (run_answer year s most_entries) 0 h)

pub read_refused : (s : List ℕ) (n : ℕ) → n ≡ read_answer_of s most_fields → (n ≡ 0 → ⊥) → refused_text n ≡ fields_text s
unfolding fields_text
read_refused s n e h = rw (← e, ne_eqb n 0 h)

-- an accepted run: the record has a first byte, and the list begins with the results. The first part of run_some shows `grind` the call to match
pub run_some : (year : ℕ) (s : List ℕ) → run_answer year s most_entries ≡ 0 → (run_answer year s most_entries ≡ 0) × (1 ≤ length s)
unfolding run_answer questions opening_questions every
run_some year s r = (r, (years_known_lem s (opening_yes s (both_zero (opening_questions s) _ refl r).0).0).0)

pub run_accepted : (between year : ℕ) (s : List ℕ) → run_answer year s most_entries ≡ 0 → result_count (last_year_of s) ≤ most_entries
    → run_text between year s ≡ entries_by between (take (result_count (last_year_of s)) (run_into year s (replicate most_entries (pos 0))))
unfolding run_into after_call figures_of run_text
run_accepted between year s r l =
    let front = take_sets (replicate most_entries (pos 0)) (results_of year (figures_of s)) (result_count (last_year_of s)) (results_length year (figures_of s)) l in
    rw (r, front)

-- an accepted reading
module _ (s : List ℕ) (r : read_answer_of s most_fields ≡ 0) where
  pub read_some : 1 ≤ length s
  unfolding read_answer_of opening_questions every
  read_some = (years_known_lem s (opening_yes s (both_zero (opening_questions s) _ refl r).0).0).0

  pub read_accepted : Fit 8 s → (n : ℕ) (list : List ℤ) → list ≡ read_into s (replicate most_fields (pos 0)) → n ≡ field_count (last_year_of s) → n ≤ most_fields
      → entries_text (take n list) ≡ fields_text s
  unfolding read_into after_call fields_text
  read_accepted h n list e f l =
      let a = reader_yes s most_fields r in
      let size = (record-read s h a.size a.filled a.ranges).0.size in
      let front : take n list ≡ fields_of s = rw (e, r) (take_sets (replicate most_fields (pos 0)) (fields_of s) n (size ∙ sym f) l) in
      rw (front, r)
