-- The comma-separated values of a history are shorter than their buffer: at most 33 lines for each of at most 63 positions. Assumes nothing.
use mathlib.Core.Bool.{Bool, true, false}
use mathlib.Core.List.{List}
use Prim.Native.Nat.{ℕ, ◌+◌, ◌*◌, ◌≤◌, ◌<◌}
use native.Mathlib.Omega.{arith}
use lib.IntN.{ℤ, pos, negsuc, nat_abs}
use lib.ListN.{length, length-append}
use Rattle.rules.specs.History.{position_count}
use Rattle.composing.specs.Text.{ascii, sign, integer}
use Rattle.composing.proofs.Decimals.{length_most}
use Rattle.plot_lengths.proofs.Drawn.{joined_most}
use Rattle.csv_rows.specs.Csv.{year_text, csv_line}
use Rattle.csv_rows.specs.Units.{hundredths, billionths}
use Rattle.history_places.specs.Places.{Windowed, position_entry}
use Rattle.history_csv.specs.Csv.{number_line, entry_lines, position_lines, history_csv}
use Rattle.history_csv_lengths.specs.Text.{most_history_csv}

year_most : (shown : Bool) (y : ℕ) → length (year_text shown y) ≤ 20
unfolding year_text
year_most true y = length_most y
year_most false y = omega arith

sign_most : (z : ℤ) → length (sign z) ≤ 1
unfolding sign
sign_most (pos n) = omega arith
sign_most (negsuc n) = omega arith

integer_most : (z : ℤ) → length (integer z) ≤ 21
unfolding integer
integer_most z = simp length-append (omega (arith, sign_most z, length_most (nat_abs z)))

-- a line, by its words
line_most : (name unit : List ℕ) (origin year : Bool) (i y : ℕ) (z : ℤ) → length (csv_line name unit origin year i y z) ≤ 66 + length name + length unit
unfolding csv_line
line_most name unit origin year i y z = simp length-append (omega (arith, year_most origin i, year_most year y, integer_most z))

module _ (first : ℕ) (list : List ℤ) (width : ℕ) (few : width ≤ 16) (a : ℕ) where
  entries_most : (name unit : List ℕ) (e : ℕ) → length name + length unit ≤ 23 → length (entry_lines name unit first list width a e width) ≤ 89 * width
  unfolding entry_lines
  entries_most name unit e short =
      joined_most (λ j. csv_line name unit true true (first + a) j (position_entry list width a (e + j))) 89 width
      (λ j h. omega (arith, line_most name unit true true (first + a) j (position_entry list width a (e + j))))

  number_most : length (number_line first list width a) ≤ 80
  unfolding number_line
  number_most = line_most (ascii "number") (ascii "question") true false (first + a) 0 (position_entry list width a 0)

  position_most : length (position_lines first list width a) ≤ 2928
  unfolding position_lines
  position_most =
      simp length-append
      (omega (arith, number_most, entries_most (ascii "share") billionths 1 (omega arith), entries_most (ascii "level") hundredths (1 + width) (omega arith)))

pub csv_most : (first years width : ℕ) (list : List ℤ) → Windowed years width first → length (history_csv first years width list) < most_history_csv
unfolding history_csv position_count
csv_most first years width list w =
    let lines = joined_most (position_lines first list width) 2928 (position_count years width) (λ a h. position_most first list width w.width_most_lem a) in
    simp length-append (omega (arith, lines, w.years_most, w.width_least))
