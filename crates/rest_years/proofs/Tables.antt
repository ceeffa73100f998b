-- The table as the arrays of the code make it, and the list of T_h. Assumes nothing.
use Prim.Native.Nat.{ℕ, ◌≤◌, ◌<◌}
use native.Mathlib.Omega.{arith}
use mathlib.Core.Path.{◌≡◌, refl, sym, ap, ◌∙◌}
use mathlib.Core.Bool.{Bool, false}
use mathlib.Core.List.{List, []}
use lib.IntN.{ℤ, pos, nat_abs}
use lib.ListN.{length, get_or, replicate, take}
use lib.Seq.{sets, length-sets, take-length}
use Rattle.rules.specs.Lists.{up_to}
use Rattle.rules.specs.Triangle.{corner_total}
use Rattle.laws.proofs.Joined.{take_sets, sets_filled, up_to_all}
use Rattle.laws.proofs.Lists.{up_to_ext, length_up_to}
use Rattle.table_cells.specs.Cells.{most_places, plain, styled}
use Rattle.table_heads.specs.Heads.{Fits}
use Rattle.table.specs.Table.{table}
use Rattle.totals.specs.CellSizes.{TotalsSmall}
use Rattle.triangle_findings.specs.TriangleFindings.{corner_by, most_corner}
use Rattle.totals.specs.Summed.{Summed}
use Rattle.triangle_findings.proofs.Totals.{columns_small, diagonals_small}
use Rattle.triangle_findings.proofs.Rests.{corner_size, corner_of_lem}
use Rattle.rest_years.specs.RestYears.{CornersSmall, refused_years, most_labels, year_labels, all_values, year_shape, year_words, year_table}
use Rattle.rest_years.proofs.Years.{values_count, years_most, labels_most}

pub table_fits : (rows : ℕ) → rows ≤ 15 → Fits (year_shape rows)
table_fits rows l = record { columns_most = omega arith; places_most = omega arith; rows_most = omega arith; from_most = omega arith }

pub table_is : (html : Bool) (t v : List ℤ) (k : ℕ) → k < 16 → (labels : List ℕ) (values : List ℤ) (rows : ℕ) → labels ≡ sets (replicate most_labels 0) 0 (year_labels t v k)
    → values ≡ sets (replicate most_places (pos 0)) 0 (all_values t v k) → rows ≡ length (refused_years t v k)
    → table html false year_words labels [] (year_shape rows) values (replicate most_places (styled plain 2)) ≡ year_table html t v k
unfolding year_table
table_is html t v k l labels values rows el ev er =
    rw (
      el ∙ sets_filled most_labels 0 (year_labels t v k) (omega (arith, labels_most t v k l)),
      ev ∙ sets_filled most_places (pos 0) (all_values t v k) (omega (arith, values_count t v k, years_most t v k)),
      er,
    )

-- a list stored over another of its length
all_stored : (l xs : List ℤ) → length l ≡ length xs → sets l 0 xs ≡ xs
all_stored l xs e =
    sym (take-length (sets l 0 xs))
    ∙ ap (λ (n : ℕ). take n (sets l 0 xs)) (length-sets l 0 xs ∙ e)
    ∙ take_sets l xs (length xs) refl (omega (arith, e))

-- v and d, the totals of the square q in arrays
module _ (q : List (List ℤ)) (k : ℕ) (few : k < 16) (v d : List ℤ) (of : Summed q k v d) where
  abbrev corner : ℕ → ℤ
  corner = corner_by (λ j. get_or v j (pos 0)) (λ h. get_or d h (pos 0))

  pub corners_are : (t : List ℤ) → t ≡ sets (replicate 16 (pos 0)) 0 (up_to corner 16) → t ≡ up_to (corner_total q) 16
  corners_are t e =
      e
      ∙ all_stored (replicate 16 (pos 0)) (up_to corner 16) (sym (length_up_to corner 16))
      ∙ up_to_ext corner (corner_total q) 16 (λ i l. corner_of_lem q v d of.totals i l)

  pub corners_small : (t : List ℤ) → t ≡ sets (replicate 16 (pos 0)) 0 (up_to corner 16) → CornersSmall t × TotalsSmall v
  corners_small t e =
      let a = columns_small q k few v d of in
      let b = diagonals_small q k few v d of in (
        rw (e ∙ all_stored (replicate 16 (pos 0)) (up_to corner 16) (sym (length_up_to corner 16)))
            (up_to_all (λ z. nat_abs z ≤ most_corner) (pos 0) (omega arith) corner 16 (λ i l. corner_size (λ j. get_or v j (pos 0)) (λ h. get_or d h (pos 0)) a b i (omega arith))),
        a,
      )
