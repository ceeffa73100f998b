-- The figures of a record that has passed questions 1, 2, 4 and 5 are small enough for a report. Assumes nothing.
use Prim.Native.Nat.{ℕ, ◌+◌, ◌≤◌, ◌<◌}
use native.Mathlib.Nat.{le_trans}
use native.Mathlib.Omega.{arith}
use mathlib.Core.Path.{◌≡◌, sym, ap, ◌∙◌}
use mathlib.Core.List.{List, map}
use lib.IntN.{ℤ, pos}
use lib.ListN.{length, replicate, length-replicate}
use lib.Seq.{sets, length-sets}
use Rattle.rules.specs.Packing.{Fit}
use Rattle.rules.specs.Questions.{first_no}
use Rattle.rules.specs.Record.{increment, value_of, figures_of, cells}
use Rattle.rules.specs.Reading.{opening_questions, field_questions}
use Rattle.laws.proofs.TriangleRows.{cells_most}
use Rattle.reading.specs.Reading.{Sound, row_read}
use Rattle.reading.proofs.FiguresRead.{Filled, figures_filled, sound_figures}
use Rattle.page_figures.specs.Given.{most_given, Given, Figured}
use Rattle.page_figures.specs.Shown.{shown_figures}
use Rattle.page_figures.proofs.Figured.{figured}
use Rattle.record_figures.specs.RecordFigures.{record_figures, Listed}

-- a list that fills an array is as long as it
filled_length : {A : Type 0} (n : ℕ) (z : A) (ys xs : List A) → sets (replicate n z) 0 ys ≡ xs → length xs ≡ n
filled_length n z ys xs e = ap length (sym e) ∙ length-sets (replicate n z) 0 ys ∙ length-replicate n z

module _ (s : List ℕ) (bytes : Fit 8 s) (one : first_no (opening_questions s) ≡ 0) (four : first_no (field_questions s) ≡ 0) where
  pub arrays : Filled s
  arrays = figures_filled s bytes one four

  pub sound : Sound (figures_of s)
  sound = sound_figures s bytes one four

  pub given : (list : List ℤ) → Listed (figures_of s).k list
      → Given (figures_of s).k list (figures_of s).exposures (figures_of s).increments (figures_of s).indices (figures_of s).reporting (figures_of s).ulae
  given list h =
      let f = figures_of s in
      let few = sound.few in
      let m = cells_most f.k few in
      record {
        long =
            record {
              results = h.long;
              exposures = omega (arith, filled_length 16 0 (row_read s 1) f.exposures arrays.exposures);
              increments = omega (arith, filled_length 136 (pos 0) (map (value_of increment) (row_read s 2)) f.increments arrays.increments);
              indices = omega (arith, filled_length 16 0 (row_read s 3) f.indices arrays.indices);
              reporting = omega (arith, filled_length 16 0 (row_read s 4) f.reporting arrays.reporting);
              ulae = omega (arith, filled_length 16 0 (row_read s 6) f.ulae arrays.ulae);
            };
        entries = h.entries;
        shares = h.shares;
        levels = h.levels;
        exposures = sound.exposures_most;
        increments = λ i. le_trans (sound.increments i) (omega arith);
        indices = λ i. le_trans (sound.indices i) (omega arith);
        reporting = λ i. le_trans (sound.reporting i) (omega arith);
        ulae = λ i. le_trans (sound.ulae i) (omega arith);
      }

  -- and so are those of its report
  pub record-figured : (list : List ℤ) → Listed (figures_of s).k list → Figured (figures_of s).k (record_figures list s)
  unfolding record_figures
  record-figured list h =
      let f = figures_of s in
      figured f.k list f.exposures f.increments f.indices f.reporting f.ulae sound.few (given list h)

  -- arrays that are those of the figures
  module _ (k : ℕ) (n : List ℕ) (p : List ℤ) (e b u : List ℕ) (ek : k ≡ (figures_of s).k) (en : n ≡ (figures_of s).exposures) (ep : p ≡ (figures_of s).increments)
      (ee : e ≡ (figures_of s).indices) (eb : b ≡ (figures_of s).reporting) (eu : u ≡ (figures_of s).ulae) where
    pub ready : (list : List ℤ) → Listed (figures_of s).k list → (k < 16) × Given k list n p e b u
    ready list h = rw (ek, en, ep, ee, eb, eu) (sound.few, given list h)

    pub figures_are : (list : List ℤ) → shown_figures k list n p e b u ≡ record_figures list s
    unfolding record_figures
    figures_are list = rw (ek, en, ep, ee, eb, eu)
