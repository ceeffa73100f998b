-- Entries of the result list by section and place. Assumes nothing.
use Prim.Native.Nat.{ℕ, zero, suc, ◌+◌, ◌-◌, ◌<◌}
use native.Mathlib.Nat.{add_assoc, zero-add}
use native.Mathlib.Omega.{arith}
use mathlib.Core.Path.{◌≡◌, refl, ap, ◌∙◌}
use mathlib.Core.List.{List, [], ◌∷◌, ◌++◌, map}
use lib.IntN.{ℤ, pos}
use lib.ListN.{length, get_or, take, length-append, length-map, get_or-append}
use lib.Seq.{get_or-append-add}
use Rattle.rules.specs.Lists.{total, up_to, joined}
use Rattle.rules.specs.Record.{Figures, cells}
use Rattle.rules.specs.Triangle.{cell_of}
use Rattle.rules.specs.Separation.{share_of, level_of}
use Rattle.rules.specs.Tail.{tail_payment, tail_payments}
use Rattle.rules.specs.Completion.{future_level, future_levels, payment_row, payments, provision, provisions}
use Rattle.rules.specs.Expense.{not_reported, reserve}
use Rattle.rules.specs.Ladder.{developed, base, development_factor, development_factors, completed_row, completed_all}
use Rattle.rules.specs.Results.{section_counts, result_count, section_start, separation_sections, completion_sections, reserve_sections, ladder_sections, tail_sections, square_of, latest_diagonal_of, factors_in, first_tail_average_of, paid_in, levels_in, tails_in, provisions_in, development_in, used_ratio_in, sections, results_of}
use Rattle.laws.proofs.Lists.{length_up_to}
use Rattle.laws.proofs.TriangleRows.{rows_all}
use Rattle.laws.proofs.Joined.{past_length, future_length, future_cells_lem}

-- how long the lists are, list by list
lengths_of : {A : Type 0} → List (List A) → List ℕ
lengths_of [] = []
lengths_of (xs ∷ xss) = length xs ∷ lengths_of xss

-- entry j of list i stands behind those of the lists before it
joined_entry : {A : Type 0} (xss : List (List A)) (i j : ℕ) (d : A) → j < length (get_or xss i []) → get_or (joined xss) (total (take i (lengths_of xss)) + j) d ≡ get_or (get_or xss i []) j d
unfolding joined total lengths_of
joined_entry [] i j d h = absurd (none j h)
  where
    none : (j : ℕ) → j < 0 → ⊥
    none j h = omega arith
joined_entry (xs ∷ xss) zero j d h = ap (λ (n : ℕ). get_or (xs ++ joined xss) n d) (zero-add j) ∙ get_or-append xs (joined xss) d j h
joined_entry (xs ∷ xss) (suc i) j d h =
    ap (λ (n : ℕ). get_or (xs ++ joined xss) n d) (add_assoc (length xs) (total (take i (lengths_of xss))) j)
    ∙ get_or-append-add xs (joined xss) (total (take i (lengths_of xss)) + j) d
    ∙ joined_entry xss i j d h

joined_length : {A : Type 0} (xss : List (List A)) → length (joined xss) ≡ total (lengths_of xss)
unfolding joined total lengths_of
joined_length [] = refl
joined_length (xs ∷ xss) = omega (arith, length-append xs (joined xss), joined_length xss)

joined_inside : {A : Type 0} (xss : List (List A)) (i j : ℕ) → j < length (get_or xss i []) → total (take i (lengths_of xss)) + j < length (joined xss)
unfolding joined total lengths_of
joined_inside [] i j h = absurd (none j h)
  where
    none : (j : ℕ) → j < 0 → ⊥
    none j h = omega arith
joined_inside (xs ∷ xss) zero j h = omega (arith, length-append xs (joined xss))
joined_inside (xs ∷ xss) (suc i) j h = omega (arith, length-append xs (joined xss), joined_inside xss i j h)

-- rows of 0, 1, 2, .. numbers in the list
rows_size : (k : ℕ) (g : ℕ → List ℕ) → ((i : ℕ) → length (g i) ≡ i) → length (map pos (joined (up_to g (k + 1)))) ≡ cells k - (k + 1)
rows_size k g h = length-map (joined (up_to g (k + 1))) pos ∙ omega (arith, future_length g h (k + 1), future_cells_lem k)

-- numbers in the list
pub numbers_size : (g : ℕ → ℕ) (n : ℕ) → length (map pos (up_to g n)) ≡ n
numbers_size g n = length-map (up_to g n) pos ∙ length_up_to g n

-- row i of the payments, and of the completed cumulatives, has i entries
pub length_payments : (k : ℕ) (n r l : List ℕ) (i : ℕ) → length (payment_row k n r l i) ≡ i
unfolding payment_row
length_payments k n r l i = length_up_to _ i

pub length_completed : (k : ℕ) (c m : List ℕ) (i : ℕ) → length (completed_row k c m i) ≡ i
unfolding completed_row
length_completed k c m i = length_up_to _ i

module _ (year : ℕ) (f : Figures) where
  abbrev k : ℕ
  k = f.k

  abbrev s : List (List ℤ)
  s = square_of f

  abbrev r : List ℕ
  r = (factors_in f).shares

  -- the sections have the lengths that the list's table gives
  section_lengths : lengths_of (sections year f) ≡ section_counts f.k
  unfolding lengths_of sections separation_sections completion_sections reserve_sections ladder_sections tail_sections tail_payments section_counts future_levels payments provisions development_factors completed_all
  section_lengths =
      rw (
        past_length (λ i. up_to (cell_of s i) (k + 1 - i)) k (λ i. length_up_to (cell_of s i) (k + 1 - i)) (k + 1),
        rows_all k,
        numbers_size (share_of s k) (k + 1),
        numbers_size (level_of s k) (k + 1),
        numbers_size (λ t. future_level (latest_diagonal_of f) (get_or f.indices t 0)) k,
        rows_size k (payment_row k f.exposures r (levels_in f)) (length_payments k f.exposures r (levels_in f)),
        numbers_size (provision k f.exposures r (levels_in f) (tails_in f)) (k + 1),
        numbers_size (not_reported k f.reporting (paid_in f) (provisions_in f)) (k + 1),
        numbers_size (reserve k (used_ratio_in year f) f.weight f.reporting (paid_in f) (provisions_in f)) (k + 1),
        numbers_size (λ h. development_factor (developed k f.increments h) (base k f.increments h)) k,
        rows_size k (completed_row k (paid_in f) (development_in f)) (length_completed k (paid_in f) (development_in f)),
        numbers_size (tail_payment f.exposures (first_tail_average_of f) f.indices) (k + 1),
      )

  pub results_length : length (results_of year f) ≡ result_count f.k
  unfolding results_of result_count
  results_length = joined_length (sections year f) ∙ ap total section_lengths

  -- entry j of section i
  pub section_entry : (i j : ℕ) → j < length (get_or (sections year f) i []) → get_or (results_of year f) (section_start f.k i + j) (pos 0) ≡ get_or (get_or (sections year f) i []) j (pos 0)
  unfolding results_of section_start
  section_entry i j h = rw (← section_lengths) (joined_entry (sections year f) i j (pos 0) h)

  pub section_inside : (i j : ℕ) → j < length (get_or (sections year f) i []) → section_start f.k i + j < length (results_of year f)
  unfolding results_of section_start
  section_inside i j h = rw (← section_lengths) (joined_inside (sections year f) i j h)
