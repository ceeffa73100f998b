-- A position is what questions 7 to 10 and the separation give of the record cut out for it. Assumes nothing.
use mathlib.Core.Path.{◌≡◌, refl, sym, ap, ap₂, ◌∙◌}
use mathlib.Core.List.{List, [], ◌∷◌, ◌++◌}
use Prim.Native.Nat.{ℕ, zero, suc, ◌+◌, ◌-◌, ◌≤◌, ◌<◌}
use native.Mathlib.Omega.{arith}
use lib.IntN.{ℤ, pos}
use lib.ListN.{length, get_or, replicate}
use Rattle.rules.specs.Lists.{up_to, padded}
use Rattle.rules.specs.Questions.{after_call}
use Rattle.rules.specs.Record.{Figures, last_year_of, fields_of, figures_of, record_of, exposures_in, increments_in, indices_in}
use Rattle.rules.specs.Writing.{given_fields, write_answer, write_into}
use Rattle.rules.specs.Triangle.{row_start, paid_of, average_of, averages_of}
use Rattle.rules.specs.Results.{square_of}
use Rattle.rules.specs.History.{window_exposures, window_increments, window_averages, separation_entries, position_of}
use Rattle.laws.proofs.Padded.{same_all}
use Rattle.totals.proofs.Square.{square_same, averages_are}
use Rattle.record.proofs.RecordAnswers.{writer_yes}
use Rattle.record.proofs.Cut.{given_fields_lem, given_again}
use Rattle.record.proofs.Number.{record-made}
use Rattle.history_records.specs.Records.{separation_of, CutOut, GivenCut, AsRecord, AsWritten}

-- an entry of a list in an array of zeros
pub filled_out : {A : Type 0} (z : A) (xs : List A) (c i : ℕ) → get_or (xs ++ replicate c z) i z ≡ get_or xs i z
filled_out z [] c i = same_all (λ x. x ≡ z) z z refl refl c i
filled_out z (x ∷ xs) c zero = refl
filled_out z (x ∷ xs) c (suc i) = filled_out z xs c i

-- the averages of figures in arrays
pub arrays_same : (k : ℕ) (n : List ℕ) (p : List ℤ) → averages_of k (padded 16 0 n) (padded 136 (pos 0) p) ≡ averages_of k n p
unfolding paid_of padded
arrays_same k n p =
    averages_are k (padded 16 0 n) (padded 136 (pos 0) p)
    ∙ square_same k _ _ (λ i j h. ap₂ average_of (filled_out (pos 0) p (136 - length p) (row_start k i + j)) (filled_out 0 n (16 - length n) i))
    ∙ sym (averages_are k n p)

-- the record that a writer makes has the figures that it was given
pub record WrittenOf (g : Figures) (s : List ℕ) : Type 0 where
  pub last : last_year_of s ≡ g.k
  pub exposures : exposures_in g.k (fields_of s) ≡ g.exposures
  pub increments : increments_in g.k (fields_of s) ≡ g.increments
  pub indices : indices_in g.k (fields_of s) ≡ g.indices

pub written_of : (g : Figures) (buffer : List ℕ) → write_answer g (length buffer) ≡ 0 → WrittenOf g (write_into g buffer)
unfolding write_into after_call
written_of g buffer w =
    let t = writer_yes g (length buffer) w in
    let made = record-made g.k (given_fields g) (given_fields_lem g (length buffer) t) in
    let again = given_again g (length buffer) t in
    rw w
    (record {
      last = made.years;
      exposures = rw made.values (ap (λ (f : Figures). f.exposures) again);
      increments = rw made.values (ap (λ (f : Figures). f.increments) again);
      indices = rw made.values (ap (λ (f : Figures). f.indices) again);
    })

module _ (years width : ℕ) (n : List ℕ) (p : List ℤ) (a : ℕ) where
  -- of every record whose triangle is cut out for the position
  pub as_record : AsRecord years width n p a
  unfolding position_of window_averages square_of figures_of
  as_record s cut =
      let square : square_of (figures_of s) ≡ window_averages years width n p a
      = rw (cut.last, cut.exposures, cut.increments) (arrays_same (width - 1) (window_exposures width n a) (window_increments years width p a)) in
      rw (square, cut.last) refl

  -- and of the record that is made of such figures
  pub as_written : AsWritten years width n p a
  as_written g buffer cut w =
      let made = written_of g buffer w in
      as_record (write_into g buffer)
      record {
        last = made.last ∙ cut.last;
        exposures = rw (← cut.last) (made.exposures ∙ cut.exposures);
        increments = rw (← cut.last) (made.increments ∙ cut.increments);
      }
