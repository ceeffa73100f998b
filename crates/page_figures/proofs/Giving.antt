-- How large the figures of the result list and the fields are in the array. Assumes nothing.
use Prim.Native.Nat.{ℕ, ◌+◌, ◌*◌, ◌≤◌, ◌<◌, zero-le}
use native.Mathlib.Nat.{le_trans}
use native.Mathlib.Omega.{arith}
use mathlib.Core.Path.{◌≡◌, refl, ◌∙◌}
use mathlib.Core.List.{List, map}
use lib.IntN.{ℤ, pos, nat_abs}
use lib.ListN.{length, get_or, take, replicate, length-map, length-replicate, get_or-map}
use lib.Seq.{sets, length-sets, length-take-le}
use Rattle.rules.specs.Lists.{up_to}
use Rattle.rules.specs.Record.{million, cells}
use Rattle.rules.specs.Separation.{billion}
use Rattle.rules.specs.Results.{share_section, level_section, result_count, section_start}
use Rattle.listing.proofs.Sections.{take_up_to}
use Rattle.laws.proofs.Lists.{get_d_up_to}
use Rattle.laws.proofs.Joined.{up_to_all}
use Rattle.listing.specs.Starts.{starts_of}
use Rattle.listing.proofs.Known.{known}
use Rattle.signed_sums.specs.Small.{Sized}
use Rattle.vectors.specs.Vectors.{most_figures}
use Rattle.vectors.proofs.Before.{sets_at, sized_before, sized_stored}
use Rattle.figure_places.specs.Places.{added_at}
use Rattle.page_figures.specs.Given.{most_given, Given, Based}
use Rattle.page_figures.specs.Shown.{result_figures, triangle_figures, with_assumptions, given_figures}
use Rattle.page_figures.proofs.Numbers.{Numbers, numbers}
use Rattle.page_figures.proofs.Sizes.{sized_more}

-- the first entries of a list of small ones
integers_small : (b n : ℕ) (xs : List ℤ) → n ≤ length xs → ((i : ℕ) → i < n → nat_abs (get_or xs i (pos 0)) ≤ b) → (i : ℕ) → nat_abs (get_or (take n xs) i (pos 0)) ≤ b
integers_small b n xs h small =
    rw (take_up_to xs (pos 0) n h) (up_to_all (λ (z : ℤ). nat_abs z ≤ b) (pos 0) zero-le (λ i. get_or xs i (pos 0)) n small)

naturals_small : (b n : ℕ) (xs : List ℕ) → n ≤ length xs → ((i : ℕ) → get_or xs i 0 ≤ b) → (i : ℕ) → nat_abs (get_or (map pos (take n xs)) i (pos 0)) ≤ b
naturals_small b n xs h small i =
    rw (get_or-map pos (take n xs) i 0, take_up_to xs 0 n h) (up_to_all (λ (x : ℕ). x ≤ b) 0 zero-le (λ j. get_or xs j 0) n (λ j l. small j) i)

naturals_length : (n : ℕ) (xs : List ℕ) → n ≤ length xs → length (map pos (take n xs)) ≡ n
naturals_length n xs h = length-map (take n xs) pos ∙ length-take-le n xs h

-- one section more
step : (at n : ℕ) (xs ys : List ℤ) → length xs ≡ most_figures → length ys ≡ n → at + n ≤ most_figures → ((i : ℕ) → nat_abs (get_or ys i (pos 0)) ≤ most_given) → Sized most_given 0 at xs
    → Sized most_given 0 (at + n) (sets xs at ys)
step at n xs ys long size room small before =
    sized_more most_given at n (sets xs at ys) (sized_before most_given 0 at xs at ys (omega arith) before) (sized_stored most_given xs at ys n size (omega arith) small)

module _ (k : ℕ) (list : List ℤ) (n : List ℕ) (p : List ℤ) (e b u : List ℕ) (few : k < 16) (given : Given k list n p e b u) where
  at_all : Numbers (added_at k) (starts_of k) k
  at_all = numbers (added_at k) (starts_of k) k few refl refl

  -- the result list
  abbrev results : List ℤ
  results = take (result_count k) list

  results_size : length results ≡ result_count k
  results_size = length-take-le (result_count k) list given.long.results

  abbrev zeros : List ℤ
  zeros = replicate most_figures (pos 0)

  zeros_long : length zeros ≡ most_figures
  zeros_long = length-replicate most_figures (pos 0)

  result_at : (i : ℕ) → i < result_count k → get_or (result_figures k list) i (pos 0) ≡ get_or list i (pos 0)
  unfolding result_figures
  result_at i h =
      let q = at_all in
      let stored = sets_at zeros 0 results i (pos 0) (omega (arith, results_size)) (omega (arith, zeros_long)) in
      let e : 0 + i ≡ i = omega arith in
      (rw e at stored) ∙ rw (take_up_to list (pos 0) (result_count k) given.long.results) (get_d_up_to (λ j. get_or list j (pos 0)) (result_count k) i (pos 0) h)

  -- a part of it
  result_part : (c a m : ℕ) → a + m ≤ result_count k → Sized c a m list → Sized c a m (result_figures k list)
  result_part c a m h small i l = rw (result_at (a + i) (omega arith)) (small i l)

  -- each array, how long it is, and how large its figures are
  abbrev g0 : List ℤ
  g0 = result_figures k list

  l0 : length (result_figures k list) ≡ most_figures
  unfolding result_figures
  l0 = length-sets zeros 0 results ∙ zeros_long

  abbrev y1 : List ℤ
  y1 = map pos (take (k + 1) n)

  abbrev g1 : List ℤ
  g1 = sets g0 (added_at k).exposures y1

  abbrev y2 : List ℤ
  y2 = take (cells k) p

  abbrev g2 : List ℤ
  g2 = sets g1 (added_at k).increments y2

  abbrev y3 : List ℤ
  y3 = map pos (take (k + 1) e)

  abbrev g3 : List ℤ
  g3 = sets g2 (added_at k).indices y3

  abbrev y4 : List ℤ
  y4 = map pos (take (k + 1) b)

  abbrev g4 : List ℤ
  g4 = sets g3 (added_at k).reporting y4

  abbrev y5 : List ℤ
  y5 = map pos (take (k + 1) u)

  abbrev g5 : List ℤ
  g5 = sets g4 (added_at k).ulae y5

  l1 : length g1 ≡ most_figures
  l1 = length-sets g0 (added_at k).exposures y1 ∙ l0

  l2 : length g2 ≡ most_figures
  l2 = length-sets g1 (added_at k).increments y2 ∙ l1

  l3 : length g3 ≡ most_figures
  l3 = length-sets g2 (added_at k).indices y3 ∙ l2

  l4 : length g4 ≡ most_figures
  l4 = length-sets g3 (added_at k).reporting y4 ∙ l3

  l5 : length g5 ≡ most_figures
  l5 = length-sets g4 (added_at k).ulae y5 ∙ l4

  s0 : Sized most_given 0 (added_at k).exposures g0
  s0 =
      let q = at_all in
      let same : result_count k ≡ (added_at k).exposures = omega arith in
      rw same at (result_part most_given 0 (result_count k) (omega arith) given.entries)

  s1 : Sized most_given 0 (added_at k).increments g1
  s1 =
      let q = at_all in
      let same : (added_at k).exposures + (k + 1) ≡ (added_at k).increments = omega arith in
      rw same at
      (step (added_at k).exposures (k + 1) g0 y1 l0 (naturals_length (k + 1) n given.long.exposures) (omega arith)
      (λ i. le_trans (naturals_small million (k + 1) n given.long.exposures given.exposures i) (omega arith)) s0)

  s2 : Sized most_given 0 (added_at k).indices g2
  s2 =
      let q = at_all in
      let same : (added_at k).increments + cells k ≡ (added_at k).indices = omega arith in
      rw same at
      (step (added_at k).increments (cells k) g1 y2 l1 (length-take-le (cells k) p given.long.increments) (omega arith)
      (integers_small most_given (cells k) p given.long.increments (λ i l. given.increments i)) s1)

  s3 : Sized most_given 0 (added_at k).reporting g3
  s3 =
      let q = at_all in
      let same : (added_at k).indices + (k + 1) ≡ (added_at k).reporting = omega arith in
      rw same at
      (step (added_at k).indices (k + 1) g2 y3 l2 (naturals_length (k + 1) e given.long.indices) (omega arith) (naturals_small most_given (k + 1) e given.long.indices given.indices) s2)

  s4 : Sized most_given 0 (added_at k).ulae g4
  s4 =
      let q = at_all in
      let same : (added_at k).reporting + (k + 1) ≡ (added_at k).ulae = omega arith in
      rw same at
      (step (added_at k).reporting (k + 1) g3 y4 l3 (naturals_length (k + 1) b given.long.reporting) (omega arith) (naturals_small most_given (k + 1) b given.long.reporting given.reporting) s3)

  s5 : Sized most_given 0 (added_at k).cumulatives g5
  s5 =
      let q = at_all in
      let same : (added_at k).ulae + (k + 1) ≡ (added_at k).cumulatives = omega arith in
      rw same at
      (step (added_at k).ulae (k + 1) g4 y5 l4 (naturals_length (k + 1) u given.long.ulae) (omega arith) (naturals_small most_given (k + 1) u given.long.ulae given.ulae) s4)

  -- what stands before a section stays
  later : (c a m : ℕ) → a + m ≤ (added_at k).increments → Sized c a m g1 → Sized c a m g5
  later c a m h small =
      let q = at_all in
      sized_before c a m g4 (added_at k).ulae y5 (omega arith)
      (sized_before c a m g3 (added_at k).reporting y4 (omega arith)
      (sized_before c a m g2 (added_at k).indices y3 (omega arith) (sized_before c a m g1 (added_at k).increments y2 (omega arith) small)))

  pub given_based : Based k (given_figures k list n p e b u)
  unfolding given_figures with_assumptions triangle_figures
  given_based =
      let q = at_all in
      let s = known k in
      record {
        long = l5;
        entries = s5;
        shares =
            later billion (section_start k share_section) (k + 1) (omega arith)
            (sized_before billion (section_start k share_section) (k + 1) g0 (added_at k).exposures y1 (omega arith)
            (result_part billion (section_start k share_section) (k + 1) (omega arith) given.shares));
        levels =
            later billion (section_start k level_section) (k + 1) (omega arith)
            (sized_before billion (section_start k level_section) (k + 1) g0 (added_at k).exposures y1 (omega arith)
            (result_part billion (section_start k level_section) (k + 1) (omega arith) given.levels));
        exposures =
            later million (added_at k).exposures (k + 1) (omega arith)
            (sized_stored million g0 (added_at k).exposures y1 (k + 1) (naturals_length (k + 1) n given.long.exposures) (omega (arith, l0))
            (naturals_small million (k + 1) n given.long.exposures given.exposures));
      }
