-- Amounts are within the allowances beside them: the third demand of the list, with an exact amount added, with two amounts added over one denominator, and summed. Assumes nothing.
use Prim.Native.Nat.{ℕ, ◌+◌, ◌*◌, ◌≤◌}
use native.Mathlib.Omega.{arith}
use mathlib.Core.Path.{◌≡◌, refl, ap, ◌∙◌}
use mathlib.Core.List.{List}
use lib.IntN.{ℤ, pos, nat_abs, ◌+ℤ◌, ◌*ℤ◌}
use lib.ListN.{get_or}
use Rattle.rules.specs.Lists.{total, up_to}
use Rattle.rules.specs.Record.{Figures, million}
use Rattle.rules.specs.Triangle.{sum_to, paid_to}
use Rattle.rules.specs.Results.{provision_section, provision_total_section, reserve_total_section, ratio_section, tail_section, section_start}
use Rattle.rules.specs.Demand.{printed, exact_tail, tail_over, exact_provision, provision_over, exact_reserve, reserve_over, tail_allowance, provision_allowance, Within, Carried}
use Rattle.laws.proofs.Diff.{is_pos, is_self, is_add, is_mul}
use Rattle.laws.proofs.Totals.{sum_to_pos}
use Rattle.allowance.proofs.Within.{near_of, within_of, near_same, near_add, near_finer, within_sum}
use Rattle.listing.specs.Starts.{starts_of}
use Rattle.vectors.specs.Vectors.{figure_at}
use Rattle.figure_places.specs.Places.{added_at}
use Rattle.shown_allowances.specs.Proved.{size_at, sum_at, sum_size, latest_of, exact_ultimate, exact_both, Amounts, Allowed, ShownWithin}
use Rattle.shown_allowances.proofs.Standing.{Standing}
use Rattle.shown_allowances.proofs.Amounts.{Listed}

-- an exact amount P added
within_paid : (P R : ℕ) (z : ℤ) (o c : ℕ) → Within R z o c → Within (P + R) (pos (P * o) +ℤ z) o c
within_paid P R z o c w =
    let n = near_of R o c (is_self z) w in
    within_of (P + R) o c (is_add (is_pos (P * o)) (is_self z)) (record { above = omega (arith, n.above); below = omega (arith, n.below) })

-- two amounts added, the second over a denominator m times as fine
within_both : (m R Q : ℕ) (y z : ℤ) (o c e : ℕ) → Within R y o c → Within Q z (o * m) e → Within (R + Q) ((pos m *ℤ y) +ℤ z) (o * m) (c + e)
within_both m R Q y z o c e v w =
    within_of (R + Q) (o * m) (c + e) (is_add (is_mul (is_pos m) (is_self y)) (is_self z))
    (near_same refl (omega arith) (near_add (near_finer m (near_of R o c (is_self y) v)) (near_of Q (o * m) e (is_self z) w)))

module _ (f : Figures) (list xs : List ℤ) (standing : Standing f list xs) (listed : Listed f.k list xs) (amounts : Amounts f list xs) (allowed : Allowed f xs)
    (D : ℕ) (x : ℕ → ℤ) (carried : Carried f list D x) where
  abbrev k : ℕ
  k = f.k

  abbrev d : ℕ
  d = latest_of f list

  -- a sum of numbers
  sum_is : (a : ℕ) (g : ℕ → ℕ) → ((i : ℕ) → i ≤ f.k → figure_at xs (a + i) ≡ pos (g i)) → sum_at xs a (f.k + 1) ≡ pos (total (up_to g (f.k + 1)))
  sum_is a g e = sum_to_pos (λ i. figure_at xs (a + i)) g (k + 1) (λ i l. e i (omega arith))

  -- the totals of provisions and of reserves
  provision : Within (size_at xs (section_start f.k provision_total_section)) (sum_to (exact_provision f (latest_of f list) D x) (f.k + 1)) (provision_over f D)
      (sum_size xs (added_at f.k).allowances (f.k + 1))
  provision = rw (listed.provision, allowed.provision_total) carried.provision_total

  reserve : Within (size_at xs (section_start f.k reserve_total_section)) (sum_to (exact_reserve f (latest_of f list) D x (printed f.k list ratio_section 0)) (f.k + 1)) (reserve_over f D)
      (sum_size xs (added_at f.k).margins (f.k + 1))
  reserve = rw (listed.reserve, allowed.reserve_total) carried.reserve_total

  -- the tail payments' total
  tail_allowance_lem : sum_size xs (added_at f.k).exposures (f.k + 1) + 100 * (f.k + 1) ≡ total (up_to (tail_allowance f) (f.k + 1))
  tail_allowance_lem =
      let claims = sum_is (added_at k).exposures (λ i. get_or f.exposures i 0) standing.exposures in
      rw claims (ap nat_abs (rw claims at allowed.tail_total))

  tail : Within (sum_size xs (section_start f.k tail_section) (f.k + 1)) (sum_to (λ i. pos (exact_tail f i)) (f.k + 1)) (tail_over f)
      (sum_size xs (added_at f.k).exposures (f.k + 1) + 100 * (f.k + 1))
  tail =
      rw (tail_allowance_lem, sum_is (section_start k tail_section) (printed k list tail_section) listed.tails)
      (within_sum (printed k list tail_section) (λ i. pos (exact_tail f i)) (tail_allowance f) (tail_over f) (k + 1) (λ i l. carried.tails i (omega arith)))

  -- ultimates
  abbrev ultimate : ℕ → ℕ
  ultimate i = paid_to k f.increments i + printed k list provision_section i

  ultimate_is : (i : ℕ) → i ≤ f.k → figure_at xs ((added_at f.k).ultimates + i) ≡ pos (paid_to f.k f.increments i + printed f.k list provision_section i)
  unfolding starts_of
  ultimate_is i h = amounts.ultimates i h ∙ rw (listed.provisions i h)

  near : (i : ℕ) → i ≤ f.k
      → Within (paid_to f.k f.increments i + printed f.k list provision_section i) (exact_ultimate f (latest_of f list) D x i) (provision_over f D) (provision_allowance f i)
  unfolding exact_ultimate
  near i h =
      within_paid (paid_to k f.increments i) (printed k list provision_section i) (exact_provision f d D x i) (provision_over f D) (provision_allowance f i) (carried.provisions i h)

  -- provision and reserve together
  both : Within (size_at xs (section_start f.k provision_total_section) + size_at xs (section_start f.k reserve_total_section))
      (exact_both f (latest_of f list) D x (printed f.k list ratio_section 0)) (reserve_over f D)
      (sum_size xs (added_at f.k).allowances (f.k + 1) + sum_size xs (added_at f.k).margins (f.k + 1))
  unfolding exact_both
  both =
      within_both (million * (million * million)) (size_at xs (section_start k provision_total_section)) (size_at xs (section_start k reserve_total_section))
      (sum_to (exact_provision f d D x) (k + 1)) (sum_to (exact_reserve f d D x (printed k list ratio_section 0)) (k + 1)) (provision_over f D)
      (sum_size xs (added_at k).allowances (k + 1)) (sum_size xs (added_at k).margins (k + 1)) provision reserve

  pub shown_within : ShownWithin f list xs D x
  unfolding starts_of
  shown_within = record {
    provisions = λ i h. rw (listed.provisions i h, allowed.provisions i h) (carried.provisions i h);
    provision_total = provision;
    reserves = λ i h. rw (listed.reserves i h, allowed.reserves i h) (carried.reserves i h);
    reserve_total = reserve;
    tail_total = tail;
    ultimates = λ i h. rw (ultimate_is i h, allowed.provisions i h) (near i h);
    ultimate_total =
        rw (sum_is (added_at k).ultimates ultimate ultimate_is, allowed.provision_total)
        (within_sum ultimate (exact_ultimate f d D x) (provision_allowance f) (provision_over f D) (k + 1) (λ i l. near i (omega arith)));
    both = both;
  }
