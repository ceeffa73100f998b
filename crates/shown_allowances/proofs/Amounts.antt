-- The amounts in the array: entries of the list, of which none is below zero, what is paid, which question 6 has found not to be, and the ultimates. Assumes nothing.
use Prim.Native.Nat.{ℕ, suc, ◌+◌, ◌-◌, ◌≤◌, ◌<◌}
use native.Mathlib.Omega.{arith}
use mathlib.Core.Path.{◌≡◌, refl, ◌∙◌}
use mathlib.Core.Bool.{true}
use mathlib.Core.List.{List}
use lib.IntN.{ℤ, pos, nat_abs}
use lib.ListN.{get_or}
use Rattle.rules.specs.Record.{Figures}
use Rattle.rules.specs.Triangle.{row_start, future_start, sum_to, cumulatives_pass, paid_to}
use Rattle.rules.specs.Results.{share_section, payment_section, provision_section, provision_total_section, reserve_section, reserve_total_section, tail_section, section_count, section_counts, result_count, section_start}
use Rattle.rules.specs.Demand.{entry_of, printed, ThirdDemand}
use Rattle.laws.proofs.Sums.{sum_to_same}
use Rattle.laws.proofs.TriangleRows.{row_within}
use Rattle.triangle.proofs.Passed.{row_paid}
use Rattle.listing.specs.Starts.{starts_of}
use Rattle.listing.proofs.Known.{known, start_least}
use Rattle.vectors.specs.Vectors.{figure_at}
use Rattle.figure_places.specs.Places.{added_at}
use Rattle.page_figures.proofs.Numbers.{Numbers, numbers}
use Rattle.shown_allowances.specs.Proved.{size_at, Amounts}
use Rattle.shown_allowances.proofs.Standing.{Standing}

-- the list ends where its sections do
sections_end : (k : ℕ) → section_start k section_count ≡ result_count k
unfolding section_start result_count section_counts
sections_end k = refl

-- the entries of the list as the array has them
pub record Listed (k : ℕ) (list xs : List ℤ) : Type 0 where
  pub payments : (i m : ℕ) → i ≤ k → m < i → figure_at xs (section_start k payment_section + (future_start i + m)) ≡ pos (printed k list payment_section (future_start i + m))
  pub tails : (i : ℕ) → i ≤ k → figure_at xs (section_start k tail_section + i) ≡ pos (printed k list tail_section i)
  pub provisions : (i : ℕ) → i ≤ k → figure_at xs (section_start k provision_section + i) ≡ pos (printed k list provision_section i)
  pub provision : figure_at xs (section_start k provision_total_section) ≡ pos (printed k list provision_total_section 0)
  pub reserves : (i : ℕ) → i ≤ k → figure_at xs (section_start k reserve_section + i) ≡ pos (printed k list reserve_section i)
  pub reserve : figure_at xs (section_start k reserve_total_section) ≡ pos (printed k list reserve_total_section 0)

module _ (f : Figures) (few : f.k < 16) (list xs : List ℤ) (standing : Standing f list xs) (demand : ThirdDemand f list) where
  abbrev k : ℕ
  k = f.k

  places : Numbers (added_at f.k) (starts_of f.k) f.k
  places = numbers (added_at k) (starts_of k) k few refl refl

  entry : (p : ℕ) → section_start f.k share_section ≤ p → p < result_count f.k → get_or list p (pos 0) ≡ pos (nat_abs (get_or list p (pos 0)))
  entry p a h = demand.nonnegative p a (omega (arith, sections_end k))

  number : (i j : ℕ) → section_start f.k share_section ≤ section_start f.k i + j → section_start f.k i + j < result_count f.k
      → figure_at xs (section_start f.k i + j) ≡ pos (printed f.k list i j)
  unfolding printed entry_of
  number i j a h = standing.results (section_start k i + j) h ∙ entry (section_start k i + j) a h

  first : (i : ℕ) → section_start f.k share_section ≤ section_start f.k i → section_start f.k i < result_count f.k → figure_at xs (section_start f.k i) ≡ pos (printed f.k list i 0)
  first i a h = let e : section_start k i + 0 ≡ section_start k i = omega arith in rw e at (number i 0 (omega arith) (omega arith))

  pub listed : Listed f.k list xs
  listed =
      let m = places in
      let q = known k in
      record {
        payments = λ i r h l. number payment_section (future_start i + r) (omega arith) (omega (arith, start_least k i h));
        tails = λ i h. number tail_section i (omega arith) (omega arith);
        provisions = λ i h. number provision_section i (omega arith) (omega arith);
        provision = first provision_total_section (omega arith) (omega arith);
        reserves = λ i h. number reserve_section i (omega arith) (omega arith);
        reserve = first reserve_total_section (omega arith) (omega arith);
      }

  module _ (six : cumulatives_pass f.k f.increments ≡ true) where
    paid : (i : ℕ) → i ≤ f.k → figure_at xs ((added_at f.k).paid + i) ≡ pos (paid_to f.k f.increments i)
    paid i h =
        standing.paid i h
        ∙ sum_to_same _ (λ j. get_or f.increments (row_start k i + j) (pos 0)) (k + 1 - i) (λ j l. standing.increments (row_start k i + j) (omega (arith, row_within k i h)))
        ∙ row_paid k f.increments six i h

    ultimates : (i : ℕ) → i ≤ f.k → figure_at xs ((added_at f.k).ultimates + i) ≡ pos (paid_to f.k f.increments i + size_at xs (section_start f.k provision_section + i))
    ultimates i h = standing.ultimates i h ∙ rw (paid i h, listed.provisions i h)

    pub amounts : Amounts f list xs
    unfolding starts_of
    amounts = record {
      results = standing.results;
      nonnegative = λ p a h. rw (standing.results p h) (entry p a h);
      paid = paid;
      ultimates = ultimates;
    }
