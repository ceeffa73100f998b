-- Questions 1 and 2, then 3, then 4 and 5: the first that says no gives the answer (first_answer, later_answer). Assumes nothing.
use borrow.Author.Rules.{rules}
use native.Mathlib.Omega.{arith}
use borrow.Author.Tests.{leb-true}
use mathlib.Core.Path.{◌≡◌, refl, sym, ap, ◌∙◌}
use mathlib.Core.Bool.{true, false}
use mathlib.Core.List.{List, ◌∷◌}
use Prim.Native.Nat.{ℕ, ◌≤◌}
use lib.IntN.{ℤ}
use lib.ListN.{length}
use lib.Seq.{sets}
use Rattle.rules.specs.Lists.{every}
use Rattle.rules.specs.Questions.{first_no, after_call}
use Rattle.rules.specs.Record.{field_count, last_year_of, fields_of}
use Rattle.rules.specs.Reading.{has_room, opening_questions, field_questions, read_answer_of, read_into}
use Rattle.laws.proofs.Questions.{first_answer, later_answer, after_refusal}
use Rattle.opening.proofs.Opened.{opening_yes, years_known_lem}
use Rattle.reader.proofs.doonamurk_read.Statement.{statement}
use Rattle.reader.proofs.doonamurk_read.Tie as tie

module _ (s : List ℕ) (out : List ℤ) where
  -- a refusal leaves the list
  refused : (n : ℕ) → (n ≡ 0 → ⊥) → n ≡ read_answer_of s (length out) → (n ≡ read_answer_of s (length out)) × (out ≡ read_into s out)
  unfolding read_into
  refused n h e = (e, rw (sym e) (sym (after_refusal n (sets out 0 (fields_of s)) out h)))

  -- one of questions 1 and 2 says no
  not_opened : (first_no (opening_questions s) ≡ 0 → ⊥) → first_no (opening_questions s) ≡ read_answer_of s (length out)
  unfolding read_answer_of
  not_opened h = sym (first_answer (opening_questions s) ((3, has_room s (length out)) ∷ field_questions s) h)

  -- both say yes
  opened : first_no (opening_questions s) ≡ 0 → read_answer_of s (length out) ≡ first_no ((3, has_room s (length out)) ∷ field_questions s)
  unfolding read_answer_of opening_questions every
  opened h = later_answer (opening_questions s) ((3, has_room s (length out)) ∷ field_questions s) refl h

  no_room : first_no (opening_questions s) ≡ 0 → has_room s (length out) ≡ false → 3 ≡ read_answer_of s (length out)
  unfolding first_no
  no_room h e = sym (opened h ∙ (rw e))

  room : first_no (opening_questions s) ≡ 0 → has_room s (length out) ≡ true → first_no (field_questions s) ≡ read_answer_of s (length out)
  unfolding first_no
  room h e = sym (opened h ∙ (rw e))

  -- the list after questions 4 and 5 were asked
  asked : {n : ℕ} {list : List ℤ} → n ≡ first_no (field_questions s) → list ≡ after_call (first_no (field_questions s)) (sets out 0 (fields_of s)) out
      → first_no (field_questions s) ≡ read_answer_of s (length out) → (n ≡ read_answer_of s (length out)) × (list ≡ read_into s out)
  unfolding read_into
  asked a b e = (a ∙ e, b ∙ ap (λ (z : ℕ). after_call z (sets out 0 (fields_of s)) out) e)

  -- a yes to question 3
  roomy : has_room s (length out) ≡ true → field_count (last_year_of s) ≤ length out
  unfolding has_room
  roomy e = leb-true (field_count (last_year_of s)) (length out) e

yes-opened : (c : tie.Else-answer-ne-ACCEPTED) → first_no (opening_questions c.before.before.before.args.packed.now) ≡ 0
yes-opened c = sym c.before.opens-answer.ensures ∙ c.if-answer-ne-ACCEPTED.false

yes-room : (c : tie.Else-not-has_room) → has_room c.before.before.before.before.before.args.packed.now (length c.before.before.before.before.before.args.list.now) ≡ true
yes-room c = sym c.before.has_room.ensures ∙ c.if-not-has_room.false

opens-requires : tie.Need-opens-answer-requires
opens-requires c κs = search rules

returns : tie.Need-returns-then-answer-ne-ACCEPTED
returns c =
    let s = c.before.before.before.args.packed.now in
    let out = c.before.before.before.args.list.now in
    let e = c.before.opens-answer.ensures in
    refused s out c.before.opens-answer.result c.if-answer-ne-ACCEPTED.true (e ∙ not_opened s out (λ z. c.if-answer-ne-ACCEPTED.true (e ∙ z)))

has-room-requires : tie.Need-has_room-requires
has-room-requires c κs =
    let s = c.before.before.before.args.packed.now in
    (years_known_lem s (opening_yes s (yes-opened c)).0).0

returns-2 : tie.Need-returns-then-not-has_room
returns-2 c =
    let s = c.before.before.before.before.before.args.packed.now in
    let out = c.before.before.before.before.before.args.list.now in
    let no = sym c.before.has_room.ensures ∙ c.if-not-has_room.true in
    refused s out 3 (λ z. absurd (omega arith)) (no_room s out (yes-opened c.before.before) no)

read-into-requires : tie.Need-read_into-requires
read-into-requires c κs =
    (yes-opened c.before.before.before, roomy c.before.before.before.before.before.before.args.packed.now c.before.before.before.before.before.before.args.list.now (yes-room c.before))

same_length : tie.Need-shape_of-list
same_length c = search rules

returns-3 : tie.Need-returns
returns-3 c =
    let s = c.before.before.before.before.before.before.before.before.args.packed.now in
    let out = c.before.before.before.before.before.before.before.before.args.list.now in
    asked s out c.before.read_into.ensures.0 c.before.read_into.ensures.1 (room s out (yes-opened c.before.before.before.before.before) (yes-room c.before.before.before))

pub doonamurk_read_spec : {M : Type 1} → statement M
doonamurk_read_spec =
    tie.close
    (tie.spec opens-requires returns has-room-requires returns-2 read-into-requires same_length returns-3)
