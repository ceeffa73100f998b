-- Every step of an accepted call has a record: with plain assumptions the writer takes what is kept. Assumes nothing.
use Prim.Native.Nat.{ℕ, suc, ◌+◌, ◌-◌, ◌≤◌, ◌<◌, zero-le}
use native.Mathlib.Decide.{dec_lt}
use native.Mathlib.Omega.{arith}
use borrow.Author.Tests.{le-leb}
use mathlib.Core.Path.{◌≡◌, refl, sym, ap, ◌∙◌}
use mathlib.Core.Bool.{true, ◌&&◌}
use mathlib.Core.List.{List, [], ◌∷◌, map}
use lib.IntN.{ℤ, pos, nat_abs}
use lib.ListN.{length, get_or, take, replicate, get_or-eq_default, length-replicate, get_or-replicate}
use lib.Signed.{le_z}
use lib.Seq.{get_or-take, length-take-le}
use Rattle.rules.specs.Lists.{up_to, padded, joined, every}
use Rattle.rules.specs.Packing.{Fit}
use Rattle.rules.specs.Record.{million, most_amount, most_index, field_count, exposure, increment, cells, byte_count, in_range, last_year_of, figures_of}
use Rattle.rules.specs.Writing.{write_answer, write_into}
use Rattle.rules.specs.Reading.{opening_questions, field_questions, read_answer_of}
use Rattle.rules.specs.Triangle.{row_start, paid_of, sum_to, cumulative_of, most_cumulative, row_passes, cumulatives_pass}
use Rattle.rules.specs.Hindsight.{kept_increments, settings_pass, holds_report, hindsight_questions, hindsight_answer}
use Rattle.laws.proofs.Lists.{length_up_to, map_up_to, every_yes, every_up_to, up_to_self}
use Rattle.laws.proofs.Sums.{sum_to_same}
use Rattle.laws.proofs.Joined.{past_length, joined_all, up_to_all}
use Rattle.laws.proofs.Questions.{both_zero}
use Rattle.laws.proofs.TriangleRows.{rows_all}
use Rattle.triangle.specs.Columns.{Increments, Exposures}
use Rattle.triangle.proofs.Cumulatives.{increment_most}
use Rattle.reading.proofs.FiguresRead.{sound_figures}
use Rattle.history_questions.proofs.Passed.{exposure_range, increment_range}
use Rattle.answering.proofs.Answering.{one_said}
use Rattle.record.proofs.RoundTrip.{read_back}
use Rattle.hindsight_list.proofs.Fits.{kept_paid}
use Rattle.history_records.proofs.Same.{filled_out, written_of}
use Rattle.history_records.proofs.Plain.{every_place, Ranged, plainly, plainly_taken}
use Rattle.hindsight_records.specs.Records.{HasRecord}

module _ (k : ℕ) (n : List ℕ) (p : List ℤ) (few : k < 16) (claims : Exposures k n) (amounts : Increments p) (h : ℕ) (some : 1 ≤ h) (less : h < k) where
  -- an exposure of at least 1 stands in the list
  long : k < length n
  long = go (dec_lt k (length n))
    where
      go : Dec (k < length n) → k < length n
      go (yes l) = l
      go (no l) = absurd (omega (arith, (claims k (omega arith)).0, get_or-eq_default n 0 {n = k} (omega arith)))

  exposures_long : length (take (h + 1) n) ≡ h + 1
  exposures_long = length-take-le (h + 1) n (omega (arith, long))

  increments_long : length (kept_increments k p h) ≡ cells h
  unfolding kept_increments
  increments_long =
      past_length (λ i. up_to (paid_of k p i) (h + 1 - i)) h (λ i. length_up_to (paid_of k p i) (h + 1 - i)) (h + 1) ∙ rows_all h

  exposures_range : every (in_range exposure) (map pos (take (h + 1) n)) ≡ true
  exposures_range =
      ap (λ (xs : List ℕ). every (in_range exposure) (map pos xs)) (sym (up_to_self (take (h + 1) n) (h + 1) 0 exposures_long))
      ∙ ap (every (in_range exposure)) (map_up_to pos (λ i. get_or (take (h + 1) n) i 0) (h + 1))
      ∙ every_yes (in_range exposure) (λ i. pos (get_or (take (h + 1) n) i 0)) (h + 1) each
    where
      each : (i : ℕ) → i < h + 1 → in_range exposure (pos (get_or (take (h + 1) n) i 0)) ≡ true
      each i l =
          let range = claims i (omega arith) in
          rw (get_or-take (h + 1) n i 0 l) (exposure_range (get_or n i 0) ∙ rw (le-leb 1 (get_or n i 0) range.0, le-leb (get_or n i 0) million range.1) refl)

  increments_range : every (in_range increment) (kept_increments k p h) ≡ true
  unfolding kept_increments
  increments_range =
      every_place (in_range increment) (kept_increments k p h)
      (joined_all (λ (z : ℤ). in_range increment z ≡ true) (pos 0) zero_range (λ i. up_to (paid_of k p i) (h + 1 - i)) (h + 1)
      (λ i j l. up_to_all (λ (z : ℤ). in_range increment z ≡ true) (pos 0) zero_range (paid_of k p i) (h + 1 - i) (λ c r. increment_range (paid_of k p i c) ∙ le-leb _ most_amount (increment_most k p i amounts c)) j))
    where
      zero_range : in_range increment (pos 0) ≡ true
      zero_range = increment_range (pos 0) ∙ le-leb 0 most_amount zero-le

  ranged : Ranged h (take (h + 1) n) (kept_increments k p h)
  ranged = record {
    some = some;
    few = omega arith;
    exposures_long = exposures_long;
    increments_long = increments_long;
    exposures_range = exposures_range;
    increments_range = increments_range;
  }

-- increments q that are those of p up to diagonal h pass question 6 where p does
kept_passes : (k : ℕ) (p : List ℤ) (h : ℕ) (q : List ℤ) → h ≤ k → ((i j : ℕ) → i + j ≤ h → paid_of h q i j ≡ paid_of k p i j) → cumulatives_pass k p ≡ true → cumulatives_pass h q ≡ true
unfolding cumulatives_pass row_passes cumulative_of
kept_passes k p h q less same six = every_yes (row_passes h q) (λ i. i) (h + 1) row
  where
    sums : (i j : ℕ) → i + j ≤ h → sum_to (paid_of h q i) (suc j) ≡ sum_to (paid_of k p i) (suc j)
    sums i j l = sum_to_same (paid_of h q i) (paid_of k p i) (suc j) (λ c r. same i c (omega arith))

    row : (i : ℕ) → i < h + 1 → row_passes h q i ≡ true
    row i l =
        every_yes (λ j. le_z (pos 0) (sum_to (paid_of h q i) (suc j)) && le_z (sum_to (paid_of h q i) (suc j)) (pos most_cumulative)) (λ j. j) (h + 1 - i)
        (λ j r. rw (sums i j (omega arith))
        (every_up_to (λ c. le_z (pos 0) (sum_to (paid_of k p i) (suc c)) && le_z (sum_to (paid_of k p i) (suc c)) (pos most_cumulative)) (λ c. c) (k + 1 - i) j (every_up_to (row_passes k p) (λ c. c) (k + 1) i six (omega arith)) (omega arith)))

-- an increment of an array is that of the list in it
array_paid : (h : ℕ) (q : List ℤ) (i j : ℕ) → paid_of h (padded 136 (pos 0) q) i j ≡ paid_of h q i j
unfolding paid_of padded
array_paid h q i j = filled_out (pos 0) q (136 - length q) (row_start h i + j)

array_first : (c e : ℕ) → get_or (padded 16 0 (replicate (c + 1) e)) 0 0 ≡ e
unfolding padded
array_first c e = filled_out 0 (replicate (c + 1) e) (16 - length (replicate (c + 1) e)) 0 ∙ get_or-replicate (c + 1) 0 e 0 (omega arith)

pub has_record : (s settings : List ℕ) (m h e : ℕ) → Fit 8 s → HasRecord s settings m h e
unfolding hindsight_answer hindsight_questions opening_questions field_questions every figures_of
has_record s settings m h e bytes zeroed some less least most =
    let first = both_zero (opening_questions s) _ refl zeroed in
    let tried = both_zero ((29, settings_pass (last_year_of s) settings) ∷ []) _ refl first.1 in
    let room = both_zero ((3, holds_report (last_year_of s) (length settings) m) ∷ []) _ refl tried.1 in
    let fields = both_zero (field_questions s) ((6, _) ∷ []) refl room.1 in
    let sound = sound_figures s bytes first.0 fields.0 in
    let cut = ranged (last_year_of s) (figures_of s).exposures (figures_of s).increments sound.few sound.exposures sound.increments h some less in
    let g = plainly _ _ _ cut e least most in
    let buffer : List ℕ = replicate (byte_count h) 0 in
    let size : length buffer ≡ byte_count h = length-replicate {A = ℕ} (byte_count h) 0 in
    let w : write_answer g (length buffer) ≡ 0 = rw size (plainly_taken _ _ _ cut e least most) in
    let t = write_into g buffer in
    let made = written_of g buffer w in
    let long : length (replicate {A = ℤ} (field_count h) (pos 0)) ≡ field_count h = length-replicate {A = ℤ} (field_count h) (pos 0) in
    let read : read_answer_of t (field_count h) ≡ 0 = rw long at (read_back g buffer (replicate (field_count h) (pos 0)) w (omega (arith, long))).0 in (
      t,
      (
        record { last = made.last; exposures = made.exposures; increments = made.increments },
        (
          rw (made.last, made.indices) (array_first h e),
          (
            rw made.last read,
            rw (made.last, made.increments)
                (kept_passes (last_year_of s) (figures_of s).increments h (padded 136 (pos 0) (kept_increments (last_year_of s) (figures_of s).increments h)) (omega arith)
                (λ i j l. array_paid h _ i j ∙ kept_paid (last_year_of s) (figures_of s).exposures (figures_of s).increments sound.few h (omega arith) i j l) (one_said 5 _ fields.1)),
          ),
        ),
      ),
    )
