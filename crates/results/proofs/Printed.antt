-- What stands at each place of a list that begins with the results of the figures f in a valuation year. Assumes nothing.
use Prim.Native.Nat.{ℕ, ◌+◌, ◌-◌, ◌≤◌, ◌<◌}
use native.Mathlib.Omega.{arith}
use mathlib.Core.Path.{◌≡◌, refl, sym, ap, ◌∙◌}
use mathlib.Core.List.{List, [], ◌∷◌, ◌++◌, map}
use lib.IntN.{ℤ, pos, nat_abs}
use lib.ListN.{length, get_or, drop, replicate, length-map, get_or-append, get_or-map}
use lib.Seq.{get_or-append-add}
use Rattle.rules.specs.Lists.{total, up_to, padded, joined}
use Rattle.rules.specs.Record.{Figures}
use Rattle.rules.specs.Triangle.{row_start, future_start, average_row, averages_of, cell_of}
use Rattle.rules.specs.Separation.{share_of, level_of}
use Rattle.rules.specs.Tail.{tail_payment, tail_payments}
use Rattle.rules.specs.Completion.{future_levels, payment, payment_row, payments, provision, provisions}
use Rattle.rules.specs.Expense.{not_reported, reserve}
use Rattle.rules.specs.Ladder.{developed, base, development_factors, completed_all}
use Rattle.rules.specs.Results.{average_section, share_section, level_section, payment_section, provision_section, provision_total_section, reserve_section, reserve_total_section, ratio_section, tail_section, section_count, section_counts, result_count, section_start, separation_sections, completion_sections, reserve_sections, ladder_sections, tail_sections, square_of, latest_diagonal_of, factors_in, first_tail_average_of, paid_in, levels_in, tails_in, provisions_in, development_in, used_ratio_in, sections, results_of}
use Rattle.rules.specs.Demand.{entry_of, printed, printed_square}
use Rattle.laws.proofs.Lists.{length_up_to, get_d_up_to, up_to_ext}
use Rattle.laws.proofs.TriangleRows.{rows_all}
use Rattle.laws.proofs.Joined.{past_length, past_at, future_length, joined_at, row_inside, append_all}
use Rattle.totals.proofs.Square.{cell_inside}
use Rattle.results.proofs.SectionPlaces.{numbers_size, length_payments, section_entry, section_inside, results_length}

-- an entry of a list of numbers
number_at : (g : ℕ → ℕ) (n j : ℕ) → j < n → get_or (map pos (up_to g n)) j (pos 0) ≡ pos (g j)
number_at g n j h = get_or-map pos (up_to g n) j 0 ∙ ap pos (get_d_up_to g n j 0 h)

module _ (year : ℕ) (f : Figures) (rest : List ℤ) where
  abbrev k : ℕ
  k = f.k

  abbrev row : ℕ → List ℕ
  row = payment_row f.k f.exposures (factors_in f).shares (levels_in f)

  entry : (i j : ℕ) → j < length (get_or (sections year f) i []) → entry_of f.k (results_of year f ++ rest) i j ≡ get_or (get_or (sections year f) i []) j (pos 0)
  unfolding entry_of
  entry i j h = get_or-append (results_of year f) rest (pos 0) (section_start f.k i + j) (section_inside year f i j h) ∙ section_entry year f i j h

  -- an entry of a section of numbers
  numbers_entry : (i : ℕ) (g : ℕ → ℕ) (n : ℕ) → get_or (sections year f) i [] ≡ map pos (up_to g n) → (j : ℕ) → j < n → printed f.k (results_of year f ++ rest) i j ≡ g j
  unfolding printed
  numbers_entry i g n e j h =
      let inside : j < length (get_or (sections year f) i []) = rw (e, numbers_size g n) h in
      ap nat_abs (entry i j inside ∙ ap (λ (xs : List ℤ). get_or xs j (pos 0)) e ∙ number_at g n j h)

  single_entry : (i x : ℕ) → get_or (sections year f) i [] ≡ pos x ∷ [] → printed f.k (results_of year f ++ rest) i 0 ≡ x
  unfolding printed
  single_entry i x e =
      let inside : 0 < length (get_or (sections year f) i []) = rw e (omega arith) in
      ap nat_abs (entry i 0 inside ∙ ap (λ (xs : List ℤ). get_or xs 0 (pos 0)) e)

  -- each printed figure by its place
  pub share_entry : (j : ℕ) → j ≤ f.k → printed f.k (results_of year f ++ rest) share_section j ≡ share_of (square_of f) f.k j
  unfolding sections separation_sections
  share_entry j h = numbers_entry share_section (share_of (square_of f) k) (k + 1) refl j (omega arith)

  pub level_entry : (j : ℕ) → j ≤ f.k → printed f.k (results_of year f ++ rest) level_section j ≡ level_of (square_of f) f.k j
  unfolding sections separation_sections
  level_entry j h = numbers_entry level_section (level_of (square_of f) k) (k + 1) refl j (omega arith)

  pub provision_entry : (i : ℕ) → i ≤ f.k
      → printed f.k (results_of year f ++ rest) provision_section i ≡ provision f.k f.exposures (factors_in f).shares (levels_in f) (tails_in f) i
  unfolding sections separation_sections completion_sections provisions
  provision_entry i h = numbers_entry provision_section (provision k f.exposures (factors_in f).shares (levels_in f) (tails_in f)) (k + 1) refl i (omega arith)

  pub provisions_entry : printed f.k (results_of year f ++ rest) provision_total_section 0 ≡ total (provisions f.k f.exposures (factors_in f).shares (levels_in f) (tails_in f))
  unfolding sections separation_sections completion_sections
  provisions_entry = single_entry provision_total_section (total (provisions k f.exposures (factors_in f).shares (levels_in f) (tails_in f))) refl

  pub reserve_entry : (i : ℕ) → i ≤ f.k
      → printed f.k (results_of year f ++ rest) reserve_section i ≡ reserve f.k (used_ratio_in year f) f.weight f.reporting (paid_in f) (provisions_in f) i
  unfolding sections separation_sections completion_sections reserve_sections
  reserve_entry i h = numbers_entry reserve_section (reserve k (used_ratio_in year f) f.weight f.reporting (paid_in f) (provisions_in f)) (k + 1) refl i (omega arith)

  pub reserves_entry : printed f.k (results_of year f ++ rest) reserve_total_section 0
      ≡ total (up_to (reserve f.k (used_ratio_in year f) f.weight f.reporting (paid_in f) (provisions_in f)) (f.k + 1))
  unfolding sections separation_sections completion_sections reserve_sections
  reserves_entry = single_entry reserve_total_section (total (up_to (reserve k (used_ratio_in year f) f.weight f.reporting (paid_in f) (provisions_in f)) (k + 1))) refl

  pub ratio_entry : printed f.k (results_of year f ++ rest) ratio_section 0 ≡ used_ratio_in year f
  unfolding sections separation_sections completion_sections reserve_sections
  ratio_entry = single_entry ratio_section (used_ratio_in year f) refl

  pub tail_entry : (i : ℕ) → i ≤ f.k → printed f.k (results_of year f ++ rest) tail_section i ≡ tail_payment f.exposures (first_tail_average_of f) f.indices i
  unfolding sections separation_sections completion_sections reserve_sections ladder_sections tail_sections tail_payments
  tail_entry i h = numbers_entry tail_section (tail_payment f.exposures (first_tail_average_of f) f.indices) (k + 1) refl i (omega arith)

  paid_at_lem : (i j m : ℕ) → m < i → f.k + 1 - i + m ≡ j
      → get_or (payment_row f.k f.exposures (factors_in f).shares (levels_in f) i) m 0 ≡ payment f.k f.exposures (factors_in f).shares (levels_in f) i j
  unfolding payment_row
  paid_at_lem i j m h e =
      let y = payment k f.exposures (factors_in f).shares (levels_in f) i in
      get_d_up_to (λ m. y (k + 1 - i + m)) i m 0 h ∙ ap y e

  -- the payment of a future cell
  pub payment_entry : (i j : ℕ) → i ≤ f.k → j ≤ f.k → f.k < i + j
      → printed f.k (results_of year f ++ rest) payment_section (future_start i + (i + j - f.k - 1)) ≡ payment f.k f.exposures (factors_in f).shares (levels_in f) i j
  unfolding printed sections separation_sections completion_sections payments
  payment_entry i j hi hj l =
      let m = i + j - k - 1 in
      let all = joined (up_to row (k + 1)) in
      let size = length_payments k f.exposures (factors_in f).shares (levels_in f) in
      let start : length (joined (up_to row i)) ≡ future_start i = future_length row size i in
      let fits : m < length (row i) = omega (arith, size i) in
      let within = row_inside row (k + 1) i (omega arith) in
      let inside : future_start i + m < length (map pos all) = rw (length-map all pos) (omega (arith, start, size i)) in
      let at = rw start at (joined_at row (k + 1) i m 0 (omega arith) fits) in
      ap nat_abs (entry payment_section (future_start i + m) inside ∙ get_or-map pos all (future_start i + m) 0 ∙ ap pos (at ∙ paid_at_lem i j m (omega arith) (omega arith)))

  -- a printed average
  average_entry : (i j : ℕ) → i + j ≤ f.k → entry_of f.k (results_of year f ++ rest) average_section (row_start f.k i + j) ≡ cell_of (square_of f) i j
  unfolding sections separation_sections
  average_entry i j h =
      let cells : ℕ → List ℤ = λ i. up_to (cell_of (square_of f) i) (k + 1 - i) in
      let size : (i : ℕ) → length (cells i) ≡ k + 1 - i = λ i. length_up_to (cell_of (square_of f) i) (k + 1 - i) in
      let inside : row_start k i + j < length (joined (up_to cells (k + 1))) =
      omega (arith, row_inside cells (k + 1) i (omega arith), past_length cells k size i, size i) in
      entry average_section (row_start k i + j) inside
      ∙ past_at cells k size (k + 1) i j (pos 0) (omega arith) h
      ∙ get_d_up_to (cell_of (square_of f) i) (k + 1 - i) j (pos 0) (omega arith)

  -- the printed averages as a square
  pub square_entry : f.k < 16 → printed_square f.k (results_of year f ++ rest) ≡ square_of f
  unfolding printed_square square_of averages_of average_row
  square_entry few =
      ap (padded 16 (replicate 16 (pos 0)))
      (up_to_ext _ _ (k + 1)
      (λ i h.
      ap (padded 16 (pos 0))
      (up_to_ext _ _ (k + 1 - i)
      (λ j l. average_entry i j (omega arith) ∙ cell_inside k f.exposures f.increments i j (omega arith) few))))

-- a number that is not below zero
abbrev Above : ℤ → Type 0
Above z = z ≡ pos (nat_abs z)

-- every entry of lists of numbers, one after another, is such a number
numbers_above : (xss : List (List ℕ)) (i : ℕ) → Above (get_or (joined (map (map pos) xss)) i (pos 0))
unfolding joined
numbers_above [] i = refl
numbers_above (xs ∷ xss) i =
    append_all Above (pos 0) refl (map pos xs) (joined (map (map pos) xss)) (λ j. rw (get_or-map pos xs j 0)) (numbers_above xss) i

-- the sections after the averages, as numbers
abbrev after : ℕ → Figures → List (List ℕ)
after year f =
    let k = f.k in
    let r = (factors_in f).shares in
    let c = paid_in f in
    let q = provisions_in f in
    up_to (share_of (square_of f) k) (k + 1)
    ∷ up_to (level_of (square_of f) k) (k + 1)
    ∷ future_levels k (latest_diagonal_of f) f.indices
    ∷ payments k f.exposures r (levels_in f)
    ∷ provisions k f.exposures r (levels_in f) (tails_in f)
    ∷ (total (provisions k f.exposures r (levels_in f) (tails_in f)) ∷ [])
    ∷ up_to (not_reported k f.reporting c q) (k + 1)
    ∷ up_to (reserve k (used_ratio_in year f) f.weight f.reporting c q) (k + 1)
    ∷ (total (up_to (reserve k (used_ratio_in year f) f.weight f.reporting c q) (k + 1)) ∷ [])
    ∷ (used_ratio_in year f ∷ [])
    ∷ development_factors k (developed k f.increments) (base k f.increments)
    ∷ completed_all k c (development_in f)
    ∷ tail_payments k f.exposures (first_tail_average_of f) f.indices
    ∷ []

after_averages : (year : ℕ) (f : Figures) → drop 1 (sections year f) ≡ map (map pos) (after year f)
unfolding sections separation_sections completion_sections reserve_sections ladder_sections tail_sections
after_averages year f = refl

after_above : (year : ℕ) (f : Figures) (i : ℕ) → Above (get_or (joined (drop 1 (sections year f))) i (pos 0))
after_above year f i = rw (after_averages year f) (numbers_above (after year f) i)

counts_all : (year : ℕ) (f : Figures) → section_start f.k section_count ≡ length (results_of year f)
unfolding section_start result_count section_counts
counts_all year f = sym (results_length year f)

counts_first : (f : Figures) → section_start f.k share_section ≡ length (joined (up_to (λ i. up_to (cell_of (square_of f) i) (f.k + 1 - i)) (f.k + 1)))
unfolding section_start section_counts total
counts_first f =
    omega (arith, past_length (λ i. up_to (cell_of (square_of f) i) (f.k + 1 - i)) f.k (λ i. length_up_to (cell_of (square_of f) i) (f.k + 1 - i)) (f.k + 1), rows_all f.k)

-- no entry after the averages is below zero
pub nonnegative_entry : (year : ℕ) (f : Figures) (rest : List ℤ) (i : ℕ) → section_start f.k share_section ≤ i → i < section_start f.k section_count → Above (get_or (results_of year f ++ rest) i (pos 0))
unfolding results_of sections separation_sections joined
nonnegative_entry year f rest i a b =
    let first = joined (up_to (λ i. up_to (cell_of (square_of f) i) (f.k + 1 - i)) (f.k + 1)) in
    let others = joined (drop 1 (sections year f)) in
    let all = counts_all year f in
    let start = counts_first f in
    let e : i ≡ length first + (i - length first) = omega arith in
    rw (get_or-append (results_of year f) rest (pos 0) i (omega arith), e, get_or-append-add first others (i - length first) (pos 0))
    (after_above year f (i - length first))
