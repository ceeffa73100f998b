-- A window over the rows of a history's averages is the square of the averages of what is cut out for its position. Assumes nothing.
use mathlib.Core.Path.{◌≡◌, refl, sym, ap, ap₂, ◌∙◌}
use mathlib.Core.List.{List, []}
use Prim.Native.Nat.{ℕ, zero, suc, ◌+◌, ◌-◌, ◌*◌, ◌≤◌, ◌<◌, zero-le}
use native.Mathlib.Decide.{dec_lt}
use native.Mathlib.Omega.{arith}
use lib.IntN.{ℤ, pos, nat_abs}
use lib.ListN.{length, get_or, length-append}
use Rattle.rules.specs.Lists.{up_to, padded, joined}
use Rattle.rules.specs.Triangle.{row_start, paid_of, average_of, averages_of, cell_of}
use Rattle.rules.specs.History.{most_history, most_width, development_years, history_paid, window_exposures, window_increments, window_averages, separation_entries, position_of, position_count, history_count, history_list}
use Rattle.laws.proofs.Lists.{length_up_to, get_d_up_to, up_to_ext}
use Rattle.laws.proofs.Padded.{same_all, filled_length, filled_at, filled_past}
use Rattle.laws.proofs.Joined.{joined_append, past_at}
use Rattle.averages.proofs.Rounding.{average_most}
use Rattle.totals.specs.CellSizes.{most_average, Cells}
use Rattle.totals.specs.Squares.{cut_of, square_with}
use Rattle.totals.proofs.Square.{square_same, averages_are}
use Rattle.triangle.specs.Columns.{Increments}
use Rattle.positions.proofs.Sizes.{entries_length}
use Rattle.history_questions.specs.Asked.{Claims, Widths}
use Rattle.history_averages.specs.HistoryRows.{years_seen, year_averages, history_row, no_year, history_rows}

-- rows of m entries each
pub rows_length : (f : ℕ → List ℤ) (m : ℕ) → ((a : ℕ) → length (f a) ≡ m) → (c : ℕ) → length (joined (up_to f c)) ≡ c * m
unfolding up_to joined
rows_length f m size zero = omega arith
rows_length f m size (suc c) =
    rw (joined_append (up_to f c) (f c)) (omega (arith, length-append (joined (up_to f c)) (f c), size c, rows_length f m size c))

module _ (years width : ℕ) (n : List ℕ) (p : List ℤ) where
  abbrev average : ℕ → ℕ → ℤ
  average i j = average_of (history_paid years p i j) (get_or n i 0)

  -- 64 rows
  pub rows_long : years ≤ most_history → length (history_rows years width n p years) ≡ most_history
  unfolding history_rows
  rows_long h = filled_length most_history no_year (history_row years width n p) years h

  -- a cell of the rows, inside the history
  pub row_cell : (i j : ℕ) → i < years → j < years_seen years width i → cell_of (history_rows years width n p years) i j ≡ average i j
  unfolding cell_of history_rows history_row year_averages
  row_cell i j h l =
      rw (filled_at most_history no_year (history_row years width n p) years i [] h) (filled_at most_width (pos 0) (average i) (years_seen years width i) j (pos 0) l)

  -- past the cells of an origin year, and in a row past the last
  past_year : (i j : ℕ) → i < years → years_seen years width i ≤ j → cell_of (history_rows years width n p years) i j ≡ pos 0
  unfolding cell_of history_rows history_row year_averages
  past_year i j h l =
      rw (filled_at most_history no_year (history_row years width n p) years i [] h)
      (filled_past most_width (pos 0) (average i) (λ z. z ≡ pos 0) (pos 0) refl refl (years_seen years width i) j l)

  past_last : (i j : ℕ) → years ≤ i → cell_of (history_rows years width n p years) i j ≡ pos 0
  unfolding cell_of history_rows
  past_last i j h =
      filled_past most_history no_year (history_row years width n p) (λ r. get_or r j (pos 0) ≡ pos 0) [] (same_all (λ z. z ≡ pos 0) (pos 0) (pos 0) refl refl most_width j) refl years i h

  -- no cell's size is above that of an average
  pub rows_small : Claims years n → Increments p → Cells (history_rows years width n p years)
  unfolding history_paid
  rows_small claims amounts i j = go (dec_lt i years) (dec_lt j (years_seen years width i))
    where
      go : Dec (i < years) → Dec (j < years_seen years width i) → nat_abs (cell_of (history_rows years width n p years) i j) ≤ most_average
      go (yes h) (yes l) = rw (row_cell i j h l) (average_most (history_paid years p i j) (get_or n i 0) (amounts _) (claims i h).0)
      go (yes h) (no l) = rw (past_year i j h (omega arith)) zero-le
      go (no h) l = rw (past_last i j (omega arith)) zero-le

  module _ (a : ℕ) (known : Widths years width) (inside : a + width ≤ years) where
    -- the increment and the exposure in what is cut out
    abbrev row : ℕ → List ℤ
    row i = up_to (history_paid years p (a + i)) (width - i)

    cut_paid : (i j : ℕ) → i + j ≤ width - 1 → paid_of (width - 1) (window_increments years width p a) i j ≡ history_paid years p (a + i) j
    unfolding paid_of window_increments
    cut_paid i j h =
        past_at row (width - 1) (λ r. length_up_to (history_paid years p (a + r)) (width - r) ∙ omega (arith, known.wide)) width i j (pos 0) (omega (arith, known.wide)) h
        ∙ get_d_up_to (history_paid years p (a + i)) (width - i) j (pos 0) (omega (arith, known.wide))

    cut_exposure : (i : ℕ) → i < width → get_or (window_exposures width n a) i 0 ≡ get_or n (a + i) 0
    unfolding window_exposures
    cut_exposure i h = get_d_up_to (λ r. get_or n (a + r) 0) width i 0 h

    -- a cell of the window stands in the rows
    paid_by : (i j : ℕ) → i + j ≤ width - 1 → j < years_seen years width (a + i)
    unfolding development_years
    paid_by i j h = omega (arith, known.wide, known.narrow)

    pub window_square : cut_of (history_rows years width n p years) a (width - 1) ≡ window_averages years width n p a
    unfolding cut_of window_averages
    window_square =
        square_same (width - 1) (λ i j. cell_of (history_rows years width n p years) (a + i) j) (λ i j. average_of (paid_of (width - 1) (window_increments years width p a) i j) (get_or (window_exposures width n a) i 0))
        (λ i j h. row_cell (a + i) j (omega (arith, known.wide)) (paid_by i j h) ∙ sym (ap₂ average_of (cut_paid i j h) (cut_exposure i (omega (arith, known.wide)))))
        ∙ sym (averages_are (width - 1) (window_exposures width n a) (window_increments years width p a))

  -- the entries of a position, and of all of them
  module _ (known : Widths years width) where
    pub position_length : (a : ℕ) → length (position_of years width n p a) ≡ 1 + 2 * width
    unfolding position_of
    position_length a =
        let e : width - 1 + 1 ≡ width = omega (arith, known.wide) in
        rw e at (entries_length (window_averages years width n p a) (width - 1) (omega (arith, known.narrow)))

    pub list_length : length (history_list years width n p) ≡ history_count years width
    unfolding history_list history_count
    list_length = rows_length (position_of years width n p) (1 + 2 * width) position_length (position_count years width)

    -- the list of the windows over the rows of averages
    pub list_is : joined (up_to (λ a. separation_entries (cut_of (history_rows years width n p years) a (width - 1)) (width - 1)) (years - width + 1)) ≡ history_list years width n p
    unfolding history_list position_of position_count
    list_is =
        ap joined
        (up_to_ext _ _ (years - width + 1)
        (λ a h. ap (λ (s : List (List ℤ)). separation_entries s (width - 1)) (window_square a known (omega (arith, known.within)))))
