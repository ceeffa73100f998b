-- Codes that are the same but for e_{k+1} and the amount 0: a test that holds of these two holds of all codes of the one where it holds of all of the other, and the
-- values are the same row by row. Assumes nothing.
use Prim.Native.Nat.{ℕ}
use mathlib.Core.Path.{◌≡◌, sym, ap, ◌∙◌}
use mathlib.Core.Bool.{Bool, true, and-true}
use mathlib.Core.List.{List, [], ◌∷◌, ◌++◌, map, map-append, zip_with}
use lib.IntN.{ℤ, pos}
use Rattle.rules.specs.Lists.{every}
use Rattle.rules.specs.Record.{Kind, exposure, increment, index, reporting, weight, ulae, tail, layout, kinds_of, section, value_of, every_field}
use Rattle.laws.proofs.Lists.{every_append}
use Rattle.no_tail.proofs.Document01.{layout01, SameCodes}
use Rattle.no_tail.proofs.Rows.{Long, values_row, every_row_lem}

-- the values of codes under a layout
abbrev pub values_of : List (ℕ × Kind) → List ℕ → List ℤ
values_of rs xs = zip_with value_of (kinds_of rs) xs

-- the rows of values, those of today and those of document 01
pub record SameValues (k e : ℕ) (vs us : List ℤ) : Type 0 where
  pub exposures : section (layout k) 1 vs ≡ section (layout01 k) 1 us
  pub increments : section (layout k) 2 vs ≡ section (layout01 k) 2 us
  pub indices : section (layout k) 3 vs ≡ section (layout01 k) 3 us ++ (pos e ∷ [])
  pub reporting : section (layout k) 4 vs ≡ section (layout01 k) 4 us
  pub weight : section (layout k) 5 vs ≡ section (layout01 k) 5 us
  pub ulae : section (layout k) 6 vs ≡ section (layout01 k) 6 us
  pub amount : section (layout k) 7 vs ≡ pos 0 ∷ []

module _ {k e : ℕ} {xs ys : List ℕ} (c : SameCodes k e xs ys) (long : Long (layout k) xs) (long01 : Long (layout01 k) ys) where
  pub every_same : (ok : Kind → ℕ → Bool) → ok index e ≡ true → ok tail 0 ≡ true → every_field ok (kinds_of (layout k)) xs ≡ every_field ok (kinds_of (layout01 k)) ys
  unfolding every layout layout01 section
  every_same ok a b =
      let indices = section (layout01 k) 3 ys in
      let row : every (ok index) (indices ++ (e ∷ [])) ≡ every (ok index) indices = every_append (ok index) indices (e ∷ []) ∙ rw a (and-true (every (ok index) indices)) in
      every_row_lem (layout k) xs long ok
      ∙ rw (c.years, c.exposures, c.increments, c.indices, row, c.reporting, c.weight, c.ulae, c.amount, b)
      (sym (every_row_lem (layout01 k) ys long01 ok))

  pub values_same : SameValues k e (values_of (layout k) xs) (values_of (layout01 k) ys)
  unfolding layout layout01 section value_of
  values_same =
      let new = values_row (layout k) xs long in
      let old = values_row (layout01 k) ys long01 in
      record {
        exposures = new 1 ∙ ap (map (value_of exposure)) c.exposures ∙ sym (old 1);
        increments = new 2 ∙ ap (map (value_of increment)) c.increments ∙ sym (old 2);
        indices = new 3 ∙ rw (c.indices, map-append (value_of index) (section (layout01 k) 3 ys) (e ∷ []), old 3);
        reporting = new 4 ∙ ap (map (value_of reporting)) c.reporting ∙ sym (old 4);
        weight = new 5 ∙ ap (map (value_of weight)) c.weight ∙ sym (old 5);
        ulae = new 6 ∙ ap (map (value_of ulae)) c.ulae ∙ sym (old 6);
        amount = new 7 ∙ ap (map (value_of tail)) c.amount;
      }
