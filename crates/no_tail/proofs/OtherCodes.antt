-- From codes of today's layout with the amount 0 the same codes of document 01's, and from those the codes of today's with any index e_{k+1}. Assumes nothing.
use Prim.Native.Nat.{ℕ, ◌+◌}
use native.Mathlib.Numerals.{add-one}
use native.Mathlib.Omega.{arith}
use mathlib.Core.Path.{◌≡◌, refl, sym, ap, ◌∙◌}
use mathlib.Core.List.{List, [], ◌∷◌, ◌++◌}
use lib.ListN.{length, get_or, take, length-append}
use lib.Seq.{length-take-le, take-suc, take-length}
use Rattle.rules.specs.Record.{layout, section}
use Rattle.layout.proofs.LayoutSections.{join, Shaped, length_join, section_join}
use Rattle.record.proofs.Cut.{sections_shaped}
use Rattle.no_tail.proofs.Document01.{layout01, SameCodes}
use Rattle.no_tail.proofs.Rows.{Long}

module _ (k : ℕ) (xs : List ℕ) (long : Long (layout k) xs) where
  abbrev row : ℕ → List ℕ
  row i = section (layout k) i xs

  -- document 01's rows
  abbrev old_rows : List (List ℕ)
  old_rows = row 0 ∷ row 1 ∷ row 2 ∷ take k (row 3) ∷ row 4 ∷ row 5 ∷ row 6 ∷ []

  abbrev pub old_codes : List ℕ
  old_codes = join old_rows

  indices_long : length (section (layout k) 3 xs) ≡ k + 1
  unfolding layout section
  indices_long = (sections_shaped (layout k) xs long).1.1.1.0

  old_shaped : Shaped (layout01 k) old_rows
  unfolding layout layout01 section
  old_shaped =
      let s = sections_shaped (layout k) xs long in
      let indices = length-take-le k (row 3) (omega (arith, indices_long)) in
      (s.0, (s.1.0, (s.1.1.0, (indices, (s.1.1.1.1.0, (s.1.1.1.1.1.0, (s.1.1.1.1.1.1.0, tt)))))))

  pub old_long : Long (layout01 k) old_codes
  old_long = length_join (layout01 k) old_rows old_shaped

  pub old_same : section (layout k) 7 xs ≡ 0 ∷ [] → SameCodes k (get_or (section (layout k) 3 xs) k 0) xs old_codes
  old_same none =
      let at = section_join (layout01 k) old_rows old_shaped in
      let indices : row 3 ≡ take k (row 3) ++ (get_or (row 3) k 0 ∷ []) =
      sym (take-length (row 3)) ∙ rw (indices_long, add-one k) (take-suc (row 3) k 0 (omega (arith, indices_long))) in
      record {
        years = sym (at 0);
        exposures = sym (at 1);
        increments = sym (at 2);
        indices = indices ∙ ap (λ (l : List ℕ). l ++ (get_or (row 3) k 0 ∷ [])) (sym (at 3));
        reporting = sym (at 4);
        weight = sym (at 5);
        ulae = sym (at 6);
        amount = none;
      }

module _ (k e : ℕ) (ys : List ℕ) (long : Long (layout01 k) ys) where
  abbrev old_row : ℕ → List ℕ
  old_row i = section (layout01 k) i ys

  -- today's rows
  abbrev new_rows : List (List ℕ)
  new_rows = old_row 0 ∷ old_row 1 ∷ old_row 2 ∷ (old_row 3 ++ (e ∷ [])) ∷ old_row 4 ∷ old_row 5 ∷ old_row 6 ∷ (0 ∷ []) ∷ []

  abbrev pub new_codes : List ℕ
  new_codes = join new_rows

  new_shaped : Shaped (layout k) new_rows
  unfolding layout layout01 section
  new_shaped =
      let s = sections_shaped (layout01 k) ys long in
      let indices : length (old_row 3 ++ (e ∷ [])) ≡ k + 1 = omega (arith, length-append (old_row 3) (e ∷ []), s.1.1.1.0) in
      (s.0, (s.1.0, (s.1.1.0, (indices, (s.1.1.1.1.0, (s.1.1.1.1.1.0, (s.1.1.1.1.1.1.0, (refl, tt))))))))

  pub new_long : Long (layout k) new_codes
  new_long = length_join (layout k) new_rows new_shaped

  pub new_same : SameCodes k e new_codes ys
  new_same =
      let at = section_join (layout k) new_rows new_shaped in
      record { years = at 0; exposures = at 1; increments = at 2; indices = at 3; reporting = at 4; weight = at 5; ulae = at 6; amount = at 7 }
