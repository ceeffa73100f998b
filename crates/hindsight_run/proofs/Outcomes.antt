-- The outcomes of a line of settings and a record: a word is wrong, the call refuses, or there is a report. Assumes nothing.
use mathlib.Core.Path.{◌≡◌, refl, sym, ap, ◌∙◌}
use mathlib.Core.Bool.{true, false}
use mathlib.Core.List.{List, ◌++◌, append_assoc}
use Prim.Native.Nat.{ℕ, ◌+◌, ◌-◌, ◌≤◌}
use native.Mathlib.Omega.{arith}
use borrow.Author.Tests.{eq-eqb, ne_eqb, eqb-true}
use lib.Dec.{eqb}
use lib.IntN.{ℤ}
use lib.ListN.{length, get_or, take, replicate, length-append, length-replicate, replicate-append-replicate}
use lib.Seq.{sets, length-sets, take_at}
use Rattle.rules.specs.Lists.{up_to, padded, every}
use Rattle.rules.specs.Questions.{after_call}
use Rattle.rules.specs.Record.{last_year_of}
use Rattle.rules.specs.Reading.{opening_questions, field_questions}
use Rattle.rules.specs.Hindsight.{most_settings, most_hindsight, settings_pass, hindsight_questions, hindsight_answer, hindsight_into}
use Rattle.laws.proofs.Lists.{both_right, take_padded}
use Rattle.laws.proofs.Joined.{sets_filled}
use Rattle.laws.proofs.Questions.{yes_said, after_refusal}
use Rattle.listing.proofs.Sections.{take_up_to}
use Rattle.opening.proofs.Opened.{years_known_lem}
use Rattle.hindsight_questions.proofs.Passed.{Settings, settings_known}
use Rattle.settings_line.specs.Settings.{most_words, wrong_word, settings_of}
use Rattle.hindsight_run.specs.Listed.{refused_text, answer_of, has_report, report_of, wrong_text, said_of}

-- settings in an array of zeros: as many as there are, and the first eight
module _ (settings : List ℕ) where
  pub stored_settings : length settings ≤ most_words → take (length settings) (sets (replicate most_words 0) 0 settings) ≡ settings
  stored_settings few = rw (sets_filled most_words 0 settings few) (take_padded most_words (length settings) 0 settings refl)

  stored_eight : length settings ≤ most_settings → take most_settings (sets (replicate most_words 0) 0 settings) ≡ padded most_settings 0 settings
  unfolding padded
  stored_eight few =
      let n = length settings in
      let long : most_settings - n + 120 ≡ most_words - n = omega arith in
      let z : ℕ = 0 in
      let split : replicate (most_words - n) z ≡ replicate (most_settings - n) z ++ replicate 120 z =
      ap (λ (m : ℕ). replicate m z) (sym long) ∙ sym (replicate-append-replicate (most_settings - n) 120 z) in
      rw (sets_filled most_words z settings (omega arith), split, ← append_assoc settings (replicate (most_settings - n) z) (replicate 120 z))
      (take_at (settings ++ replicate (most_settings - n) z) (replicate 120 z) most_settings
      (length-append settings (replicate (most_settings - n) z) ∙ omega (arith, length-replicate (most_settings - n) z)))

  pub stored_first : length settings ≤ most_settings → up_to (λ j. get_or (sets (replicate most_words 0) 0 settings) j 0) most_settings ≡ padded most_settings 0 settings
  stored_first few =
      let z : ℕ = 0 in
      sym (take_up_to (sets (replicate most_words z) 0 settings) 0 most_settings (omega (arith, length-sets (replicate most_words z) 0 settings, length-replicate most_words z)))
      ∙ stored_eight few

module _ (line packed : List ℕ) where
  -- a word is wrong
  pub wrong : (wrong_word line ≡ 0 → ⊥) → (has_report line packed ≡ false) × (said_of line packed ≡ wrong_text (wrong_word line))
  unfolding has_report said_of
  wrong some = rw (ne_eqb (wrong_word line) 0 some) (refl, refl)

  -- where the call refuses, the list is kept
  pub kept : (held : List ℤ) → length held ≡ most_hindsight → (answer_of line packed ≡ 0 → ⊥) → hindsight_into packed (settings_of line) held ≡ held
  unfolding hindsight_into answer_of
  kept held long some = rw long (after_refusal (hindsight_answer packed (settings_of line) most_hindsight) _ held some)

  module _ (right : wrong_word line ≡ 0) where
    -- the call refuses
    pub refused : (answer_of line packed ≡ 0 → ⊥) → (has_report line packed ≡ false) × (said_of line packed ≡ refused_text (answer_of line packed))
    unfolding has_report said_of
    refused some = rw (eq-eqb (wrong_word line) 0 right, ne_eqb (answer_of line packed) 0 some) (refl, refl)

    -- there is a report
    pub listed : answer_of line packed ≡ 0 → has_report line packed ≡ true
    unfolding has_report
    listed none = rw (eq-eqb (wrong_word line) 0 right, eq-eqb (answer_of line packed) 0 none) refl

  -- where there is one, the call accepts
  pub accepted : has_report line packed ≡ true → answer_of line packed ≡ 0
  unfolding has_report
  accepted has = eqb-true (answer_of line packed) 0 (both_right (eqb (wrong_word line) 0) (eqb (answer_of line packed) 0) has)

  -- what questions 1 and 29 then say
  module _ (accepted : answer_of line packed ≡ 0) where
    passed : settings_pass (last_year_of packed) (settings_of line) ≡ true
    unfolding answer_of hindsight_answer hindsight_questions opening_questions field_questions every
    passed = yes_said 29 (hindsight_questions packed (settings_of line) most_hindsight) refl accepted

    pub some_record : 1 ≤ length packed
    unfolding answer_of hindsight_answer hindsight_questions opening_questions field_questions every
    some_record = (years_known_lem packed (yes_said 1 (hindsight_questions packed (settings_of line) most_hindsight) refl accepted)).0

    -- so the settings are few and in their range, and k is 2 at least
    pub asked : Settings (last_year_of packed) (settings_of line)
    asked = settings_known (last_year_of packed) (settings_of line) passed

    -- and the list has the report
    pub filled : (held : List ℤ) → length held ≡ most_hindsight → hindsight_into packed (settings_of line) held ≡ sets held 0 (report_of line packed)
    unfolding hindsight_into report_of answer_of after_call
    filled held long = rw (long, accepted) refl
