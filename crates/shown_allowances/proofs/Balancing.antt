-- Sums in the array that are the same: cells past the diagonal add up by payment year to what they do by origin year (Turned), and sums are added and taken off term by term. Assumes nothing.
use Prim.Native.Nat.{ℕ, suc, ◌+◌, ◌-◌, ◌≤◌}
use native.Mathlib.Omega.{arith}
use mathlib.Core.Path.{◌≡◌, sym, ap, ap₂, ◌∙◌}
use mathlib.Core.List.{List}
use lib.IntN.{ℤ, pos, ◌+ℤ◌, ◌-ℤ◌}
use Rattle.rules.specs.Record.{Figures}
use Rattle.rules.specs.Triangle.{sum_to, future_start}
use Rattle.rules.specs.Results.{payment_section, provision_section, provision_total_section, reserve_section, reserve_total_section, tail_section, section_start}
use Rattle.rules.specs.Demand.{printed}
use Rattle.laws.proofs.Diff.{is_self, is_add, is_minus, eq_is}
use Rattle.laws.proofs.Sums.{sum_to_same, sum_to_add}
use Rattle.laws.proofs.Totals.{sum_to_pos}
use Rattle.listing.specs.Starts.{starts_of}
use Rattle.vectors.specs.Vectors.{figure_at}
use Rattle.future_figures.specs.FutureFigures.{expected_payments}
use Rattle.figure_places.specs.Places.{added_at}
use Rattle.shown_allowances.specs.Proved.{sum_at, Balanced}
use Rattle.shown_allowances.proofs.Standing.{Standing}
use Rattle.shown_allowances.proofs.Turned.{sum_to_minus, by_payment_year}
use Rattle.shown_allowances.proofs.Entries.{Entries}
use Rattle.shown_allowances.proofs.Amounts.{Listed}

-- what is paid and the provision, less the ladder's ultimate, is the provision less what the ladder has remaining
paid_off : (p r l : ℤ) → (p +ℤ r) -ℤ l ≡ r -ℤ (l -ℤ p)
paid_off p r l =
    eq_is (is_minus (is_add (is_self p) (is_self r)) (is_self l)) (is_minus (is_self r) (is_minus (is_self l) (is_self p))) (omega arith)

module _ (f : Figures) (list xs : List ℤ) (standing : Standing f list xs) (entries : Entries f.k list) (listed : Listed f.k list xs) where
  abbrev k : ℕ
  k = f.k

  abbrev figure : ℕ → ℕ → ℤ
  figure a i = figure_at xs (a + i)

  provisions : sum_at xs (section_start f.k provision_section) (f.k + 1) ≡ figure_at xs (section_start f.k provision_total_section)
  provisions =
      sum_to_pos (figure (section_start k provision_section)) (printed k list provision_section) (k + 1) (λ i l. listed.provisions i (omega arith))
      ∙ ap pos (sym entries.provisions)
      ∙ sym listed.provision

  reserves : sum_at xs (section_start f.k reserve_section) (f.k + 1) ≡ figure_at xs (section_start f.k reserve_total_section)
  reserves =
      sum_to_pos (figure (section_start k reserve_section)) (printed k list reserve_section) (k + 1) (λ i l. listed.reserves i (omega arith))
      ∙ ap pos (sym entries.reserves)
      ∙ sym listed.reserve

  -- the payment in column m past the diagonal of row i
  abbrev cell : ℕ → ℕ → ℤ
  cell i m = figure_at xs (section_start k payment_section + (future_start i + m))

  abbrev tail : ℕ → ℤ
  tail = figure (section_start k tail_section)

  row : (i : ℕ) → i ≤ f.k → sum_to (cell i) i +ℤ tail i ≡ figure_at xs (section_start f.k provision_section + i)
  row i h =
      ap₂ (λ (a b : ℤ). a +ℤ b) (sum_to_pos (cell i) (λ m. printed k list payment_section (future_start i + m)) i (λ m l. listed.payments i m h l)) (listed.tails i h)
      ∙ ap pos (sym (entries.row i h))
      ∙ sym (listed.provisions i h)

  expected : sum_at xs (added_at f.k).expected (f.k + 1) ≡ figure_at xs (section_start f.k provision_total_section)
  unfolding expected_payments
  expected =
      let years : ℕ → ℤ = λ t. sum_to (λ m. cell (suc (t + m)) t) (k - t) in
      sum_to_same (figure (added_at k).expected) (λ t. years t +ℤ tail t) (k + 1) (λ t l. standing.expected t (omega arith))
      ∙ sum_to_add years tail (k + 1)
      ∙ ap (λ (z : ℤ). z +ℤ sum_to tail (k + 1)) (by_payment_year cell k)
      ∙ sym (sum_to_add (λ i. sum_to (cell i) i) tail (k + 1))
      ∙ sum_to_same (λ i. sum_to (cell i) i +ℤ tail i) (figure (section_start k provision_section)) (k + 1) (λ i l. row i (omega arith))
      ∙ provisions

  ultimates : sum_at xs (added_at f.k).ultimates (f.k + 1) ≡ sum_at xs (added_at f.k).paid (f.k + 1) +ℤ figure_at xs (section_start f.k provision_total_section)
  ultimates =
      let paid = figure (added_at k).paid in
      let provided = figure (section_start k provision_section) in
      sum_to_same (figure (added_at k).ultimates) (λ i. paid i +ℤ provided i) (k + 1) (λ i l. standing.ultimates i (omega arith))
      ∙ sum_to_add paid provided (k + 1)
      ∙ ap (λ (z : ℤ). sum_to paid (k + 1) +ℤ z) provisions

  difference : (i : ℕ) → i ≤ f.k
      → figure_at xs ((added_at f.k).differences + i) ≡ figure_at xs (section_start f.k provision_section + i) -ℤ figure_at xs ((added_at f.k).remaining + i)
  difference i h =
      standing.differences i h
      ∙ rw (standing.ultimates i h, standing.remaining i h)
      (paid_off (figure (added_at k).paid i) (figure (section_start k provision_section) i) (figure (added_at k).ladder i))

  -- differences by origin year of two sections add up to that of their sums
  taken_off : (d a b : ℕ) → ((i : ℕ) → i ≤ f.k → figure_at xs (d + i) ≡ figure_at xs (a + i) -ℤ figure_at xs (b + i)) → sum_at xs d (f.k + 1) ≡ sum_at xs a (f.k + 1) -ℤ sum_at xs b (f.k + 1)
  taken_off d a b e = sum_to_same (figure d) (λ i. figure a i -ℤ figure b i) (k + 1) (λ i l. e i (omega arith)) ∙ sum_to_minus (figure a) (figure b) (k + 1)

  pub balanced : Balanced f.k xs
  unfolding starts_of
  balanced = record {
    provisions = provisions;
    reserves = reserves;
    expected = expected;
    ultimates = ultimates;
    difference = difference;
    differences =
        taken_off (added_at k).differences (section_start k provision_section) (added_at k).remaining difference
        ∙ ap (λ (z : ℤ). z -ℤ sum_at xs (added_at k).remaining (k + 1)) provisions;
    ultimate_differences = taken_off (added_at k).differences (added_at k).ultimates (added_at k).ladder standing.differences;
  }
