-- Sections of the figures that can be summed: where they stand, in numbers. Assumes nothing.
use Prim.Native.Nat.{ℕ, zero, suc, ◌+◌, ◌≤◌, ◌<◌}
use native.Mathlib.Omega.{arith}
use mathlib.Core.Path.{◌≡◌, refl}
use mathlib.Core.List.{List, [], ◌∷◌}
use lib.IntN.{ℤ}
use lib.ListN.{get_or}
use Rattle.rules.specs.Record.{cells}
use Rattle.listing.specs.declared.Starts.{Starts}
use Rattle.listing.specs.Starts.{starts_of}
use Rattle.listing.proofs.Known.{SectionsKnown, known, At, at_starts}
use Rattle.signed_sums.specs.Small.{most_figure}
use Rattle.figure_places.specs.declared.Added.{Added}
use Rattle.figure_places.specs.Places.{added_at}
use Rattle.page_figures.specs.Given.{Figured}
use Rattle.page_figures.proofs.Numbers.{Numbers, numbers}
use Rattle.page_figures.proofs.Bases.{sized_part}
use Rattle.section_numbers.specs.Numbers.{Spans}

-- all places, for omega
pub record Placed (k : ℕ) : Type 0 where
  pub numbered : Numbers (added_at k) (starts_of k) k
  pub listed : At (starts_of k) k
  pub sections : SectionsKnown k

pub all_placed : (k : ℕ) → k < 16 → Placed k
all_placed k h = record { numbered = numbers (added_at k) (starts_of k) k h refl refl; listed = at_starts (starts_of k) k refl; sections = known k }

-- a section of figures that can be plotted
pub spans : (k : ℕ) (xs : List ℤ) → k < 16 → Figured k xs → (start n : ℕ) → n ≤ 136 → start + n ≤ (added_at k).differences → Spans start n xs
spans k xs few figured start n h l =
    let p = all_placed k few in
    record { few = h; inside = omega arith; small = sized_part most_figure most_figure (added_at k).differences start n xs (omega arith) l figured.plotted }

-- sections by their starts and counts, each of which can be summed
pub record Each (xs : List ℤ) (ss ns : List ℕ) : Type 0 where
  pub each : (j : ℕ) → Spans (get_or ss j 0) (get_or ns j 0) xs

-- one more in front
in_front : (xs : List ℤ) (s n : ℕ) (ss ns : List ℕ) → Spans s n xs → Each xs ss ns → (j : ℕ) → Spans (get_or (s ∷ ss) j 0) (get_or (n ∷ ns) j 0) xs
in_front xs s n ss ns h t zero = h
in_front xs s n ss ns h t (suc j) = t.each j

module _ (k : ℕ) (xs : List ℤ) (few : k < 16) (figured : Figured k xs) where
  p : Placed k
  p = all_placed k few

  none : Each xs [] []
  none = record { each = λ j. spans k xs few figured 0 0 (omega arith) (omega arith) }

  more : (s n : ℕ) {ss ns : List ℕ} → n ≤ 136 → s + n ≤ (added_at k).differences → Each xs ss ns → Each xs (s ∷ ss) (n ∷ ns)
  more s n {ss} {ns} h l t = record { each = in_front xs s n ss ns (spans k xs few figured s n h l) t }

  -- a section with a figure for each year, and none at all
  year : (s : ℕ) {ss ns : List ℕ} → s + (k + 1) ≤ (added_at k).differences → Each xs ss ns → Each xs (s ∷ ss) ((k + 1) ∷ ns)
  year s l t = more s (k + 1) (omega (arith, few)) l t

  empty : {ss ns : List ℕ} → Each xs ss ns → Each xs (0 ∷ ss) (0 ∷ ns)
  empty t = more 0 0 (omega arith) (omega arith) t

  -- the sections that are summed
  pub totals_span : (a : Added) (s : Starts) (m : ℕ) → a ≡ added_at k → s ≡ starts_of k → m ≡ cells k
      → Each xs (a.paid ∷ a.ultimates ∷ a.ladder ∷ a.remaining ∷ s.tails ∷ a.allowances ∷ a.margins ∷ a.ulae ∷ a.exposures ∷ 0 ∷ [])
      ((k + 1) ∷ (k + 1) ∷ (k + 1) ∷ (k + 1) ∷ (k + 1) ∷ (k + 1) ∷ (k + 1) ∷ (k + 1) ∷ (k + 1) ∷ m ∷ [])
  totals_span a s m e f g =
      rw (e, f, g)
      (year (added_at k).paid (omega (arith, p))
      (year (added_at k).ultimates (omega (arith, p))
      (year (added_at k).ladder (omega (arith, p))
      (year (added_at k).remaining (omega (arith, p))
      (year (starts_of k).tails (omega (arith, p))
      (year (added_at k).allowances (omega (arith, p))
      (year (added_at k).margins (omega (arith, p))
      (year (added_at k).ulae (omega (arith, p))
      (year (added_at k).exposures (omega (arith, p)) (more 0 (cells k) (omega (arith, p)) (omega (arith, p)) none))))))))))

  -- those whose largest sizes are taken
  pub largest_span : (a : Added) (s : Starts) (m : ℕ) → a ≡ added_at k → s ≡ starts_of k → m ≡ cells k
      → Each xs (a.exposures ∷ a.increments ∷ s.levels ∷ a.indices ∷ a.ultimates ∷ s.factors ∷ 0 ∷ 0 ∷ 0 ∷ 0 ∷ [])
      ((k + 1) ∷ m ∷ (k + 1) ∷ (k + 1) ∷ (k + 1) ∷ k ∷ 0 ∷ 0 ∷ 0 ∷ 0 ∷ [])
  largest_span a s m e f g =
      rw (e, f, g)
      (year (added_at k).exposures (omega (arith, p))
      (more (added_at k).increments (cells k) (omega (arith, p)) (omega (arith, p))
      (year (starts_of k).levels (omega (arith, p))
      (year (added_at k).indices (omega (arith, p))
      (year (added_at k).ultimates (omega (arith, p)) (more (starts_of k).factors k (omega (arith, few)) (omega (arith, p)) (empty (empty (empty (empty none))))))))))
