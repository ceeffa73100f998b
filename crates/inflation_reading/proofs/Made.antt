-- A line of inflation that stands for the indices: what it says of its line, and what a call hands back of its rates. Assumes nothing.
use mathlib.Core.Path.{◌≡◌}
use mathlib.Core.Bool.{Bool, true, false, not, ◌&&◌}
use mathlib.Core.List.{List, ◌++◌, map}
use Prim.Native.Nat.{ℕ, suc, ◌+◌, ◌≤◌, ◌<◌, ◌^◌}
use native.Mathlib.Omega.{arith}
use borrow.Author.Tests.{eqb-true, leb-true}
use lib.Dec.{eqb, leb}
use lib.IntN.{ℤ, pos}
use lib.ListN.{length, get_or, take}
use Rattle.rules.specs.Lists.{up_to}
use Rattle.rules.specs.Questions.{after_call}
use Rattle.rules.specs.Record.{most_index}
use Rattle.rules.specs.Inflation.{most_years, index_after, inflation_answer, indices_of}
use Rattle.rules.specs.declared.Inflation.{Inflation}
use Rattle.laws.proofs.Lists.{both_right, length_up_to, take_padded}
use Rattle.laws.proofs.Padded.{filled_length, filled_at}
use Rattle.inflation.proofs.Answers.{index_within}
use Rattle.inflation_line.specs.InflationLine.{is_inflation, shape_of, fault_in}
use Rattle.inflation_line.proofs.Lines.{fault_accepted}
use Rattle.sheet.specs.Sheet.{last_year_in, fine, read_line, stands_for_indices, indices_made, read_next}

module _ (history : Bool) (k i : ℕ) (line : List ℕ) where
  -- its rates are accepted
  pub stands_accepted : stands_for_indices history k i line ≡ true → inflation_answer (shape_of line) (k + 1) ≡ 0
  unfolding stands_for_indices
  stands_accepted h =
      let right : Bool = eqb (fault_in (k + 1) line).kind 0 in
      let place : Bool = eqb i (k + 3) in
      fault_accepted (k + 1) line
      (eqb-true _ 0 (both_right (is_inflation line) right (both_right place (is_inflation line && right) (both_right (not history) (place && (is_inflation line && right)) h))))

-- of an accepted call: the indices of the years wanted, each below 2^63
module _ (shape : Inflation) (years : ℕ) (h : inflation_answer shape years ≡ 0) where
  pub call_indices : take years (indices_of shape years).values ≡ up_to (index_after shape) years
  unfolding indices_of after_call
  call_indices = rw h (take_padded most_years years 0 (up_to (index_after shape) years) (length_up_to (index_after shape) years))

  pub call_small : (n : ℕ) → n < years → get_or (indices_of shape years).values n 0 < 2 ^ 63
  unfolding indices_of after_call
  call_small n l =
      let most = leb-true (index_after shape n) most_index (both_right (leb 1 (index_after shape n)) (leb (index_after shape n) most_index) (index_within shape years h n l)) in
      rw (h, filled_at most_years 0 (index_after shape) years n 0 l) (omega arith)

  pub call_length : years ≤ most_years → length (indices_of shape years).values ≡ most_years
  unfolding indices_of after_call
  call_length l = rw h (filled_length most_years 0 (index_after shape) years l)

-- a line that stands for the indices, and any other
module _ (history : Bool) (n i : ℕ) (vs : List ℤ) (line : List ℕ) where
  pub next_made : stands_for_indices history (last_year_in vs) i line ≡ true → read_next history n i vs line ≡ fine n (suc i) (vs ++ map pos (indices_made (last_year_in vs) line))
  unfolding read_next
  next_made h = rw h

  pub next_plain : stands_for_indices history (last_year_in vs) i line ≡ false → read_next history n i vs line ≡ read_line history n i vs line
  unfolding read_next
  next_plain h = rw h
