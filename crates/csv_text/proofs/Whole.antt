-- No entry is left out and none comes twice: each section ends where the next one starts, the first starts at 0 and the last ends with the list.
-- Assumes nothing.
use mathlib.Core.Path.{◌≡◌}
use Prim.Native.Nat.{ℕ, ◌+◌}
use native.Mathlib.Omega.{arith}
use Rattle.rules.specs.Results.{average_section, share_section, level_section, future_level_section, payment_section, provision_section, provision_total_section, not_reported_section, reserve_section, reserve_total_section, ratio_section, factor_section, completed_section, tail_section, section_start, result_count}
use Rattle.laws.proofs.Joined.{future_cells_lem}
use Rattle.listing.proofs.Known.{known}
use Rattle.listing.proofs.Counts.{results_count}
use Rattle.rows.specs.Rows.{entries_in}
use Rattle.rows.proofs.Counts.{entries_level, entries_rising, entries_falling}
use Rattle.csv_rows.specs.Csv.{given_cells, future_cells, by_origin, by_year, alone}
use Rattle.csv_rows.specs.declared.Shape.{Shape}

-- where a section of this shape ends that starts with section i
abbrev pub end_of : ℕ → ℕ → Shape → ℕ
end_of k i s = section_start k i + entries_in s.n s.rows

pub record WholeList (k : ℕ) : Type 0 where
  pub first : section_start k average_section ≡ 0
  pub averages : end_of k average_section (given_cells k) ≡ section_start k share_section
  pub shares : end_of k share_section (by_year 0 (k + 1)) ≡ section_start k level_section
  pub levels : end_of k level_section (by_year 0 (k + 1)) ≡ section_start k future_level_section
  pub future_levels : end_of k future_level_section (by_year (k + 1) k) ≡ section_start k payment_section
  pub payments : end_of k payment_section (future_cells k) ≡ section_start k provision_section
  pub provisions : end_of k provision_section (by_origin k) ≡ section_start k provision_total_section
  pub provision : end_of k provision_total_section alone ≡ section_start k not_reported_section
  pub unreported : end_of k not_reported_section (by_origin k) ≡ section_start k reserve_section
  pub reserves : end_of k reserve_section (by_origin k) ≡ section_start k reserve_total_section
  pub reserve : end_of k reserve_total_section alone ≡ section_start k ratio_section
  pub ratio : end_of k ratio_section alone ≡ section_start k factor_section
  pub factors : end_of k factor_section (by_year 0 k) ≡ section_start k completed_section
  pub completed : end_of k completed_section (future_cells k) ≡ section_start k tail_section
  pub last : end_of k tail_section (by_origin k) ≡ result_count k

pub whole_list : (k : ℕ) → WholeList k
whole_list k =
    let at = known k in
    let cells = future_cells_lem k in
    let given = entries_falling (k + 1) in
    let future = entries_rising (k + 1) (k + 1) in
    let origins = entries_level (k + 1) 0 1 in
    let one = entries_level 1 0 1 in
    record {
      first = at.averages;
      averages = omega arith;
      shares = omega (arith, entries_level 1 0 (k + 1));
      levels = omega (arith, entries_level 1 0 (k + 1));
      future_levels = omega (arith, entries_level 1 (k + 1) k);
      payments = omega arith;
      provisions = omega arith;
      provision = omega arith;
      unreported = omega arith;
      reserves = omega arith;
      reserve = omega arith;
      ratio = omega arith;
      factors = omega (arith, entries_level 1 0 k);
      completed = omega arith;
      last = omega (arith, results_count k);
    }
