-- Where the sections of the result list start and end, in numbers. Assumes nothing.
use Prim.Native.Nat.{ℕ, zero, suc, ◌+◌, ◌-◌, ◌*◌, ◌≤◌}
use native.Mathlib.Numerals.{add-one}
use native.Mathlib.Omega.{arith}
use mathlib.Core.Path.{◌≡◌, refl, ap}
use Rattle.rules.specs.Triangle.{future_start}
use Rattle.rules.specs.Lists.{total}
use Rattle.rules.specs.Record.{cells}
use Rattle.rules.specs.Results.{average_section, share_section, level_section, future_level_section, payment_section, provision_section, provision_total_section, not_reported_section, reserve_section, reserve_total_section, ratio_section, factor_section, completed_section, tail_section, section_counts, section_start}
use Rattle.laws.proofs.TriangleRows.{cells_least}
use Rattle.listing.specs.declared.Starts.{Starts}
use Rattle.listing.specs.Starts.{starts_of}

-- each start, with the cells past the diagonal as c − (k + 1)
pub record SectionsKnown (k : ℕ) : Type 0 where
  pub averages : section_start k average_section ≡ 0
  pub shares : section_start k share_section ≡ cells k
  pub levels : section_start k level_section ≡ cells k + (k + 1)
  pub ahead : section_start k future_level_section ≡ cells k + 2 * (k + 1)
  pub payments : section_start k payment_section ≡ cells k + 2 * (k + 1) + k
  pub provisions : section_start k provision_section ≡ 2 * cells k + (k + 1) + k
  pub provision : section_start k provision_total_section ≡ 2 * cells k + 2 * (k + 1) + k
  pub unreported : section_start k not_reported_section ≡ 2 * cells k + 2 * (k + 1) + k + 1
  pub reserves : section_start k reserve_section ≡ 2 * cells k + 3 * (k + 1) + k + 1
  pub reserve : section_start k reserve_total_section ≡ 2 * cells k + 4 * (k + 1) + k + 1
  pub ratio : section_start k ratio_section ≡ 2 * cells k + 4 * (k + 1) + k + 2
  pub factors : section_start k factor_section ≡ 2 * cells k + 4 * (k + 1) + k + 3
  pub completed : section_start k completed_section ≡ 2 * cells k + 4 * (k + 1) + 2 * k + 3
  pub tails : section_start k tail_section ≡ 3 * cells k + 3 * (k + 1) + 2 * k + 3

pub known : (k : ℕ) → SectionsKnown k
unfolding section_start total section_counts
known k =
    let m = cells_least k in
    record {
      averages = refl;
      shares = omega arith;
      levels = omega arith;
      ahead = omega arith;
      payments = omega arith;
      provisions = omega arith;
      provision = omega arith;
      unreported = omega arith;
      reserves = omega arith;
      reserve = omega arith;
      ratio = omega arith;
      factors = omega arith;
      completed = omega arith;
      tails = omega arith;
    }

-- starts that are those of the sections
pub record At (s : Starts) (k : ℕ) : Type 0 where
  pub shares : s.shares ≡ section_start k share_section
  pub levels : s.levels ≡ section_start k level_section
  pub ahead : s.ahead ≡ section_start k future_level_section
  pub payments : s.payments ≡ section_start k payment_section
  pub provisions : s.provisions ≡ section_start k provision_section
  pub provision : s.provision ≡ section_start k provision_total_section
  pub unreported : s.unreported ≡ section_start k not_reported_section
  pub reserves : s.reserves ≡ section_start k reserve_section
  pub reserve : s.reserve ≡ section_start k reserve_total_section
  pub ratio : s.ratio ≡ section_start k ratio_section
  pub factors : s.factors ≡ section_start k factor_section
  pub completed : s.completed ≡ section_start k completed_section
  pub tails : s.tails ≡ section_start k tail_section

pub at_starts : (s : Starts) (k : ℕ) → s ≡ starts_of k → At s k
unfolding starts_of
at_starts s k e =
    record {
      shares = ap (λ (z : Starts). z.shares) e;
      levels = ap (λ (z : Starts). z.levels) e;
      ahead = ap (λ (z : Starts). z.ahead) e;
      payments = ap (λ (z : Starts). z.payments) e;
      provisions = ap (λ (z : Starts). z.provisions) e;
      provision = ap (λ (z : Starts). z.provision) e;
      unreported = ap (λ (z : Starts). z.unreported) e;
      reserves = ap (λ (z : Starts). z.reserves) e;
      reserve = ap (λ (z : Starts). z.reserve) e;
      ratio = ap (λ (z : Starts). z.ratio) e;
      factors = ap (λ (z : Starts). z.factors) e;
      completed = ap (λ (z : Starts). z.completed) e;
      tails = ap (λ (z : Starts). z.tails) e;
    }

-- the cells past the diagonal of the rows before i
pub future_start_more : (i : ℕ) → future_start (i + 1) ≡ future_start i + i
unfolding future_start
future_start_more i = ap future_start (add-one i)

-- no row ends after the last
pub start_least : (k i : ℕ) → i ≤ k → future_start i + i ≤ future_start (k + 1)
start_least k i h = go i (k - i) (omega arith)
  where
    go : (i n : ℕ) → i + n ≡ k → future_start i + i ≤ future_start (k + 1)
    go i zero e =
        let same : i ≡ k = omega arith in
        rw same (omega (arith, future_start_more k))
    go i (suc n) e = omega (arith, future_start_more i, go (i + 1) n (omega arith))
