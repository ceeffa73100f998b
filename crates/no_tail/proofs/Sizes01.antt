-- The lengths that document 01 names, computed from its rules as they stand here: bits, bytes and entries for k = 1 and k = 15. Its list has as many entries as its
-- question 3 asks room for, and today's record has 57 bits more before filling. Assumes nothing.
use Prim.Native.Nat.{ℕ, ◌+◌}
use native.Mathlib.Omega.{arith}
use mathlib.Core.Path.{◌≡◌, refl, ap}
use mathlib.Core.List.{List}
use lib.IntN.{ℤ, pos}
use lib.ListN.{length, replicate, length-append, length-replicate}
use Rattle.rules.specs.Lists.{total}
use Rattle.rules.specs.Record.{cells, layout, kinds_of, widths, bit_count, last_year_of}
use Rattle.layout.proofs.RecordSizes.{bits_of_rows}
use Rattle.listing.proofs.Counts.{results_count}
use Rattle.results.proofs.SectionPlaces.{results_length}
use Rattle.no_tail.proofs.Document01.{layout01, widths01, byte_count01, figures_of01, result_count01, results_of01}
use Rattle.no_tail.proofs.NothingLeft.{results_none}

pub two_years_lem : (total (widths01 1) ≡ 300) × ((byte_count01 1 ≡ 38) × (result_count01 1 ≡ 20))
unfolding byte_count01 widths01 layout01 kinds_of cells total result_count01
two_years_lem = (refl, (refl, refl))

pub sixteen_years : (total (widths01 15) ≡ 6313) × ((byte_count01 15 ≡ 790) × (result_count01 15 ≡ 489))
unfolding byte_count01 widths01 layout01 kinds_of cells total result_count01
sixteen_years = (refl, (refl, refl))

pub bits_more : (k : ℕ) → bit_count k ≡ total (widths01 k) + 57
unfolding bit_count widths layout widths01 layout01 total
bits_more k = omega (arith, bits_of_rows (layout k), bits_of_rows (layout01 k))

pub list_length : (year : ℕ) (t : List ℕ) → length (results_of01 year (figures_of01 t)) ≡ result_count01 (last_year_of t)
unfolding figures_of01 result_count01
list_length year t =
    let k = last_year_of t in
    let f = figures_of01 t in
    let zeros : List ℤ = replicate (k + 1) (pos 0) in
    omega (
      arith,
      ap length (results_none year f refl),
      length-append (results_of01 year f) zeros,
      length-replicate (k + 1) (pos 0),
      results_length year f,
      results_count k,
    )
