-- The years that the page lists are those of which question 8 says no, and there are some just where it says no. Assumes nothing.
use mathlib.Core.Path.{◌≡◌, refl, sym, ap, ap₂, ◌∙◌, subst}
use mathlib.Core.Bool.{Bool, true, false, cond, ◌&&◌, and-false}
use mathlib.Core.List.{List, [], ◌∷◌}
use Prim.Native.Nat.{ℕ, zero, suc, ◌+◌, ◌<◌}
use native.Mathlib.Nat.{add-zero}
use native.Mathlib.Numerals.{add-one}
use native.Mathlib.Omega.{arith}
use borrow.Author.Tests.{ne_eqb}
use lib.Dec.{eqb}
use lib.IntN.{ℤ, pos, ◌-ℤ◌}
use lib.ListN.{length}
use lib.Signed.{le_z}
use Rattle.rules.specs.Lists.{up_to, every}
use Rattle.rules.specs.Triangle.{column_total, corner_total}
use Rattle.rules.specs.Separation.{rests_pass}
use Rattle.laws.proofs.Lists.{get_d_up_to, every_append}
use Rattle.triangle_findings.specs.TriangleFindings.{rest_passes_of, rest_passes}
use Rattle.rest_years.specs.RestYears.{passes_year, refused_years, row_where}
use Rattle.rest_years.proofs.Years.{no_years, rows_next}

and_yes : (b : Bool) → b && true ≡ b
and_yes true = refl
and_yes false = refl

-- n years, and one more where the test says no
one_more : (b : Bool) (n : ℕ) → eqb n 0 && b ≡ eqb (n + cond b 0 1) 0
one_more true n = and_yes (eqb n 0) ∙ ap (λ (m : ℕ). eqb m 0) (sym (add-zero n))
one_more false n = and-false (eqb n 0) ∙ sym (ne_eqb (n + 1) 0 (λ e. omega arith))

module _ (q : List (List ℤ)) where
  -- the lists of T_h and v_h that the page goes by
  abbrev corners : List ℤ
  corners = up_to (corner_total q) 16

  abbrev columns : List ℤ
  columns = up_to (column_total q) 16

  -- the test of a year is question 8's
  pub passes_is : (h : ℕ) → h < 16 → passes_year corners columns h ≡ rest_passes q h
  unfolding rest_passes_of
  passes_is h l = ap₂ (λ (a b : ℤ). le_z (pos 1) (a -ℤ b)) (get_d_up_to (corner_total q) 16 h (pos 0) l) (get_d_up_to (column_total q) 16 h (pos 0) l)

  row_is : (h : ℕ) → h < 16 → row_where corners columns h ≡ cond (rest_passes q h) 0 1
  unfolding row_where
  row_is h l = ap (λ (b : Bool). cond b 0 1) (passes_is h l)

  -- question 8 of one year more
  asked_next : (m : ℕ) → rests_pass q (m + 1) ≡ rests_pass q m && rest_passes q (m + 1)
  unfolding rests_pass rest_passes_of up_to every
  asked_next m =
      let p : ℕ → Bool = λ h. le_z (pos 1) (corner_total q h -ℤ column_total q h) in
      let f : ℕ → ℕ = λ h. h + 1 in
      ap (λ (n : ℕ). every p (up_to f n)) (add-one m)
      ∙ every_append p (up_to f m) ((m + 1) ∷ [])
      ∙ ap (λ (b : Bool). every p (up_to f m) && b) (and_yes (p (m + 1)))

  -- and the years that are listed
  listed_next : (m : ℕ) → m + 1 < 16 → rests_pass q m ≡ eqb (length (refused_years corners columns m)) 0
      → rests_pass q m && rest_passes q (m + 1) ≡ eqb (length (refused_years corners columns (m + 1))) 0
  listed_next m l before =
      ap (λ (b : Bool). b && rest_passes q (m + 1)) before
      ∙ one_more (rest_passes q (m + 1)) (length (refused_years corners columns m))
      ∙ ap (λ (n : ℕ). eqb n 0) (sym (rows_next corners columns m ∙ ap (λ (n : ℕ). length (refused_years corners columns m) + n) (row_is (m + 1) l)))

  -- there are such years just where question 8 says no
  pub listed : (k : ℕ) → k < 16 → rests_pass q k ≡ eqb (length (refused_years corners columns k)) 0
  unfolding rests_pass up_to every
  listed zero l = sym (ap (λ (n : ℕ). eqb n 0) (no_years corners columns).1.1)
  listed (suc m) l =
      subst (λ (k : ℕ). rests_pass q k ≡ eqb (length (refused_years corners columns k)) 0) (add-one m) (asked_next m ∙ listed_next m (omega arith) (listed m (omega arith)))
