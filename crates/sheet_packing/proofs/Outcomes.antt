-- The outcomes of packing a text: it is not as due, the writer refuses it, or there is a record. Assumes nothing.
use mathlib.Core.Path.{◌≡◌, refl, sym, ap, ap₂, ◌∙◌}
use mathlib.Core.Bool.{true, false}
use mathlib.Core.List.{List, [], ◌++◌}
use Prim.Native.Nat.{ℕ, ◌+◌, ◌≤◌, ◌<◌}
use native.Mathlib.Omega.{arith}
use borrow.Author.Tests.{eq-eqb, ne_eqb}
use lib.IntN.{ℤ, pos}
use lib.ListN.{length, take, drop, replicate, length-replicate}
use lib.Seq.{sets-eq}
use Rattle.rules.specs.Record.{byte_count, most_fields}
use Rattle.rules.specs.Writing.{given_at, given_in, write_answer, write_into}
use Rattle.wording.specs.Wording.{refusal_text}
use Rattle.sheet.specs.declared.Found.{Found}
use Rattle.sheet.specs.Table.{due_at, most_first}
use Rattle.sheet.specs.Sheet.{Typed, last_year_in, read_sheet, pack_answer, pack_into}
use Rattle.line_reading.specs.Reads.{Reads}
use Rattle.line_reading.proofs.Known.{text_known, sheet_count}
use Rattle.sheet_fields.proofs.FieldSections.{given_front}
use Rattle.sheet_wording.specs.Problem.{problem_line}
use Rattle.history_wording.specs.Refused.{problem_front}
use Rattle.history_wording.proofs.Told.{told_numbers, told_long, told_word, told_asked, told_wrong}
use Rattle.sheet_packing.specs.Said.{said_of, has_record, size_of}

module _ (text : List ℕ) (f : Found) (list : List ℤ) (word : List ℕ) (h : Reads (read_sheet text) f (replicate most_fields (pos 0)) list (replicate 20 0) word) where
  abbrev t : Typed
  t = read_sheet text

  problem : f.problem ≡ t.problem
  problem = ap (λ (x : Found). x.problem) h.said

  -- the numbers stand in the front of the list
  numbers : take f.count list ≡ t.numbers
  numbers = told_numbers false text f (replicate most_fields (pos 0)) list word (length-replicate most_fields (pos 0)) h

  pub list_long : length list ≡ most_fields
  list_long = told_long false text f (replicate most_fields (pos 0)) list word (length-replicate most_fields (pos 0)) h

  pub word_long : length word ≡ 20
  word_long = told_word false text f (replicate most_fields (pos 0)) list word (length-replicate most_fields (pos 0)) h

  -- what the words for a problem ask
  pub asked : (f.count ≤ length list) × ((last_year_in (take f.count list) ≤ most_first false) × (f.word ≤ length word))
  asked = told_asked false text f (replicate most_fields (pos 0)) list word (length-replicate most_fields (pos 0)) h

  -- something is wrong with the text
  pub wrong : (f.problem ≡ 0 → ⊥) → (buffer : List ℕ) → (buffer ≡ pack_into t buffer) × ((0 ≡ size_of t)
      × (problem_front false f.problem f.place
      ++ problem_line f.problem f.line (due_at (last_year_in (take f.count list)) f.place) f.cell (take f.word word)
      ≡ said_of t))
  unfolding pack_into size_of said_of
  wrong some buffer =
      let no = ne_eqb t.problem 0 (λ e. some (problem ∙ e)) in
      rw no (refl, (refl, told_wrong false text f (replicate most_fields (pos 0)) list word (length-replicate most_fields (pos 0)) h))

  pub wrong_has_none : (f.problem ≡ 0 → ⊥) → false ≡ has_record t
  wrong_has_none some = rw (ne_eqb t.problem 0 (λ e. some (problem ∙ e))) refl

  -- nothing is
  module _ (right : f.problem ≡ 0) (k : ℕ) (e : k ≡ last_year_in (take f.count list)) where
    none : t.problem ≡ 0
    none = sym problem ∙ right

    years : k ≡ last_year_in t.numbers
    years = rw numbers at e

    pub few : k < 16
    few = omega (arith, years, (text_known false text).few)

    -- what the writer is given
    given_are : given_at k list ≡ given_in t.numbers
    unfolding given_at
    given_are =
        let rest = drop (0 + length t.numbers) (replicate most_fields (pos 0)) in
        let list_is : list ≡ t.numbers ++ rest =
        h.stored ∙ sets-eq t.numbers (replicate most_fields (pos 0)) 0 (omega (arith, (text_known false text).most, length-replicate most_fields (pos 0))) in
        ap₂ given_at years list_is ∙ given_front (last_year_in t.numbers) t.numbers rest (omega (arith, sheet_count text none))

    answered : (answer : ℕ) → answer ≡ write_answer (given_at k list) (byte_count k) → pack_answer t ≡ answer
    unfolding pack_answer
    answered answer a = rw (none) (sym (a ∙ rw (given_are, years)))

    pub written : (buffer after : List ℕ) → after ≡ write_into (given_at k list) (take (byte_count k) buffer) ++ drop (byte_count k) buffer → after ≡ pack_into t buffer
    unfolding pack_into
    written buffer after a = rw (a, given_are, years, none)

    -- the writer refuses it
    pub refused : (answer : ℕ) → answer ≡ write_answer (given_at k list) (byte_count k) → (answer ≡ 0 → ⊥) → (0 ≡ size_of t) × (refusal_text answer ≡ said_of t)
    unfolding size_of said_of
    refused answer a some =
        let e = answered answer a in
        rw (ne_eqb (pack_answer t) 0 (λ z. some (sym e ∙ z)), e, none) (refl, refl)

    pub refused_has_none : (answer : ℕ) → answer ≡ write_answer (given_at k list) (byte_count k) → (answer ≡ 0 → ⊥) → false ≡ has_record t
    refused_has_none answer a some = rw (ne_eqb (pack_answer t) 0 (λ z. some (sym (answered answer a) ∙ z)), none) refl

    -- there is a record
    pub made : (answer : ℕ) → answer ≡ write_answer (given_at k list) (byte_count k) → answer ≡ 0 → (byte_count k ≡ size_of t) × ([] ≡ said_of t)
    unfolding size_of said_of
    made answer a e = rw (eq-eqb (pack_answer t) 0 (answered answer a ∙ e), none) (ap byte_count years, refl)

    pub made_has_one : (answer : ℕ) → answer ≡ write_answer (given_at k list) (byte_count k) → answer ≡ 0 → true ≡ has_record t
    made_has_one answer a e = rw (eq-eqb (pack_answer t) 0 (answered answer a ∙ e), none) refl
