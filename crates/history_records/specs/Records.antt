-- What is claimed of the positions of a history. Assumes nothing.
use Rattle.std.specs.Prelude.{ℕ, ◌-◌, ◌*◌, ◌≤◌, ◌<◌, ◌≡◌, List, ◌∷◌, ◌++◌, map, ℤ, pos, length, replicate}
use Rattle.rules.specs.Lists.{up_to}
use Rattle.rules.specs.Record.{Figures, byte_count, last_year_of, fields_of, figures_of, exposures_in, increments_in}
use Rattle.rules.specs.Writing.{write_answer, write_into}
use Rattle.rules.specs.Triangle.{column_total, diagonal_total}
use Rattle.rules.specs.Separation.{share_of, level_of, separate_answer}
use Rattle.rules.specs.Exact.{NearExact}
use Rattle.rules.specs.Results.{square_of}
use Rattle.rules.specs.History.{most_width, least_width, window_exposures, window_increments, window_averages, separation_entries, position_of, position_count, history_answer}

-- what questions 7 to 10 alone, and the separation, give of the figures of the record s
abbrev pub separation_of : List ℕ → List ℤ
separation_of s = separation_entries (square_of (figures_of s)) (last_year_of s)

module _ (years width : ℕ) (n : List ℕ) (p : List ℤ) (a : ℕ) where
  -- the triangle of the record s, its k, exposures and increments, is the one cut out for position a
  pub record CutOut (s : List ℕ) : Type 0 where
    pub last : last_year_of s ≡ width - 1
    pub exposures : exposures_in (width - 1) (fields_of s) ≡ window_exposures width n a
    pub increments : increments_in (width - 1) (fields_of s) ≡ window_increments years width p a

  -- the same of what a writer is given, whatever its other figures
  pub record GivenCut (g : Figures) : Type 0 where
    pub last : g.k ≡ width - 1
    pub exposures : g.exposures ≡ window_exposures width n a
    pub increments : g.increments ≡ window_increments years width p a

  -- position a equals that record under questions 7 to 10 alone
  abbrev pub AsRecord : Type 0
  AsRecord = (s : List ℕ) → CutOut s → position_of years width n p a ≡ separation_of s

  -- and equals the record that the writer makes of such figures
  abbrev pub AsWritten : Type 0
  AsWritten = (g : Figures) (buffer : List ℕ) → GivenCut g → write_answer g (length buffer) ≡ 0 → position_of years width n p a ≡ separation_of (write_into g buffer)

  -- and there are such figures, which the writer takes, of every position of a history that questions 27 and 28 accept
  abbrev pub HasRecord : Type 0
  HasRecord = (m : ℕ) → history_answer years width n p m ≡ 0 → a < position_count years width → (g : Figures) × (GivenCut g × (write_answer g (byte_count g.k) ≡ 0))

  -- the square of averages of position a
  abbrev pub square : List (List ℤ)
  square = window_averages years width n p a

  -- of a position of a width from 2 to 16 whose number is 0, its shares and levels meet the third demand
  abbrev pub OfAccepted : Type 0
  OfAccepted =
      least_width ≤ width → width ≤ most_width → separate_answer square (width - 1) ≡ 0
      → (position_of years width n p a ≡ pos 0 ∷ (map pos (up_to (share_of square (width - 1)) width) ++ map pos (up_to (level_of square (width - 1)) width)))
      × NearExact (width - 1) (column_total square) (diagonal_total square) (share_of square (width - 1)) (level_of square (width - 1))

  -- of any other, zeros stand after its number
  abbrev pub OfRefused : Type 0
  OfRefused = least_width ≤ width → width ≤ most_width → (separate_answer square (width - 1) ≡ 0 → ⊥) → position_of years width n p a ≡ pos (separate_answer square (width - 1)) ∷ replicate (2 * width) (pos 0)
