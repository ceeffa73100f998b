-- How long a row is at most, and whole records in a stream. Assumes nothing.
use mathlib.Core.Path.{◌≡◌, refl, ap}
use mathlib.Core.Bool.{true, false}
use mathlib.Core.List.{List, [], ◌∷◌, ◌++◌}
use Prim.Native.Nat.{ℕ, zero, suc, ◌+◌, ◌-◌, ◌*◌, ◌≤◌, ◌<◌, zero-le}
use native.Mathlib.Decide.{ℕ_discrete}
use native.Mathlib.Nat.{suc-mul}
use native.Mathlib.Omega.{arith}
use borrow.Author.Tests.{leb-true, le-leb, lt-leb, ne_eqb}
use lib.Dec.{leb}
use lib.IntN.{ℤ, pos, nat_abs}
use lib.ListN.{length, get_or, length-append}
use Rattle.rules.specs.Lists.{up_to, joined, every}
use Rattle.rules.specs.Record.{last_year_of, figures_of}
use Rattle.rules.specs.Reading.{opening_questions}
use Rattle.rules.specs.Results.{result_count, most_entries, results_of}
use Rattle.rules.specs.Engine.{holds_list, questions, run_answer}
use Rattle.laws.proofs.Joined.{joined_more}
use Rattle.laws.proofs.Lists.{both_right, same_answer}
use Rattle.laws.proofs.Questions.{both_zero, yes_said}
use Rattle.composing.specs.Text.{decimal, sign, integer, ascii}
use Rattle.composing.proofs.Decimals.{length_most, length_sign}
use Rattle.results.proofs.SectionPlaces.{results_length}
use Rattle.list_text.specs.EntryLines.{after, entry_text, entries_by, refused_text}
use Rattle.valuation.specs.Valuation.{pair_at}
use Rattle.list_runs.specs.Runs.{run_text}
use Rattle.list_stream.specs.Stream.{whole_at, most_row}

-- texts of at most b bytes, joined
joined_most : (f : ℕ → List ℕ) (b : ℕ) → ((i : ℕ) → length (f i) ≤ b) → (n : ℕ) → length (joined (up_to f n)) ≤ n * b
unfolding up_to joined
joined_most f b small zero = zero-le
joined_most f b small (suc n) =
    omega (arith, ap length (joined_more f n), length-append (joined (up_to f n)) (f n), joined_most f b small n, small n, suc-mul n b)

-- a number has at most 20 digits and a sign
entry_most : (z : ℤ) (next : ℕ) → length (entry_text z next) ≤ 22
unfolding entry_text integer
entry_most z next =
    omega (arith, length-append (sign z ++ decimal (nat_abs z)) (next ∷ []), length-append (sign z) (decimal (nat_abs z)), length_most (nat_abs z), length_sign z)

separated_most : (between : ℕ) (zs : List ℤ) → length (entries_by between zs) ≤ length zs * 22
unfolding entries_by
separated_most between zs =
    joined_most (λ i. entry_text (get_or zs i (pos 0)) (after between (length zs) i)) 22 (λ i. entry_most (get_or zs i (pos 0)) (after between (length zs) i)) (length zs)

refused_most : (n : ℕ) → length (refused_text n) ≤ 29
unfolding refused_text
refused_most n =
    omega (arith, length-append (ascii "refused ") (decimal n ++ ascii "\n"), length-append (decimal n) (ascii "\n"), length_most n)

-- the list of an accepted run is not longer than the longest
results_most : (year : ℕ) (s : List ℕ) → run_answer year s most_entries ≡ 0 → length (results_of year (figures_of s)) ≤ most_entries
unfolding run_answer questions opening_questions holds_list figures_of every
results_most year s r =
    let later = (both_zero (opening_questions s) _ refl r).1 in
    let three = (both_zero ((3, holds_list s most_entries) ∷ []) _ refl later).0 in
    omega (arith, results_length year (figures_of s), leb-true (result_count (last_year_of s)) most_entries (yes_said 3 ((3, holds_list s most_entries) ∷ []) refl three))

-- the text of a run is not longer than the longest row
pub text_most : (between year : ℕ) (s : List ℕ) → length (run_text between year s) ≤ most_row
unfolding run_text
text_most between year s = go (ℕ_discrete (run_answer year s most_entries) 0)
  where
    go : Dec (run_answer year s most_entries ≡ 0) → length (run_text between year s) ≤ most_row
    go (yes r) = rw r (omega (arith, separated_most between (results_of year (figures_of s)), results_most year s r))
    go (no r) = rw (ne_eqb (run_answer year s most_entries) 0 r) (omega (arith, refused_most (run_answer year s most_entries)))

-- a whole record stands inside, and where the length or the record does not, it is none
module _ (s : List ℕ) (p : ℕ) where
  pub whole_inside : whole_at s p ≡ true → p + 2 + pair_at s p ≤ length s
  unfolding whole_at
  whole_inside h = leb-true (p + 2 + pair_at s p) (length s) (both_right (leb (p + 2) (length s)) _ h)

  pub no_length : length s < p + 2 → false ≡ whole_at s p
  unfolding whole_at
  no_length h = rw (lt-leb (p + 2) (length s) h)

  pub some_length : p + 2 ≤ length s → leb (pair_at s p) (length s - p - 2) ≡ whole_at s p
  unfolding whole_at
  some_length h =
      rw (le-leb (p + 2) (length s) h)
      (same_answer (leb (pair_at s p) (length s - p - 2)) (leb (p + 2 + pair_at s p) (length s))
      (λ q. le-leb (p + 2 + pair_at s p) (length s) (omega (arith, leb-true (pair_at s p) (length s - p - 2) q)))
      (λ q. le-leb (pair_at s p) (length s - p - 2) (omega (arith, leb-true (p + 2 + pair_at s p) (length s) q))))
